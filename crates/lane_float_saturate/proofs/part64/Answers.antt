-- `lane_float_saturate::part64` meets its contract. Assumes nothing.
use Rattle.std.proofs.Common.{◌≡◌, ℕ, ◌+◌, ◌-◌, ◌/◌, ◌%◌, ◌^◌, ◌<◌, ◌≤◌, sym, ap, ◌∙◌, le_trans, le_of_eq, lt_of_le_of_lt, mul-one, arith, lit≤}
use lib.Ieee.{binary64, of_bits}
use lib.Ieee.Casts.{to_unsigned-lt}
use Rattle.standard.specs.Convert.{trunc_sat_u}
use Rattle.lane_float_pattern.proofs.Fields.{field, digits, digits_are}
use Rattle.lane_float_pattern.proofs.Saturation.{part_of_nan, part_small, part_large, part_middle}
use Rattle.lane_float_saturate.proofs.part64.Goals as goal

pub returns-then-size-gt9218868437227405312 : goal.returns-then-size-gt9218868437227405312
returns-then-size-gt9218868437227405312 c = part_of_nan binary64 c.args.bits c.if-size-gt9218868437227405312.true

pub returns-then-field-lt1023 : goal.returns-then-field-lt1023
returns-then-field-lt1023 c = part_small binary64 c.args.bits c.if-field-lt1023.true

pub returns-then-field-gt1054 : goal.returns-then-field-gt1054
returns-then-field-gt1054 c = part_large binary64 c.args.bits c.if-size-gt9218868437227405312.false c.if-field-gt1054.true

some : (x : ℕ) → 1023 ≤ x → 0 < x
some x h = omega arith

part_is : (c : goal.Else-field-gt1054) → (c.args.bits % 4503599627370496 + 4503599627370496) / 2 ^
    (1075 - field binary64 c.args.bits) ≡ trunc_sat_u binary64 (c.args.bits % 2 ^ 63)
part_is c =
    ap (λ (n : ℕ). n / 2 ^ (1075 - field binary64 c.args.bits))
    (digits_are binary64 c.args.bits (some _ c.if-field-lt1023.false)
    ∙ sym (mul-one (digits binary64 c.args.bits)))
    ∙ part_middle binary64 c.args.bits 0 (some _ c.if-field-lt1023.false) (le_trans c.if-field-gt1054.false (lit≤ tt)) c.if-field-gt1054.false

pub overflow_cast-result : goal.overflow_cast-result
overflow_cast-result c = record { fits = lt_of_le_of_lt (le_of_eq (part_is c)) (to_unsigned-lt 32 (of_bits binary64 (c.args.bits % 2 ^ 63))) }

pub returns : goal.returns
returns c = part_is c

-- `lane_float_narrow::demote` meets its contract. Assumes nothing.
use mathlib.Core.Path.{◌≡◌, refl, ap, ap₂, ◌∙◌, subst}
use mathlib.Core.Bool.{Bool, true, false, cond}
use Prim.Native.Nat.{ℕ, ◌+◌, ◌-◌, ◌*◌, ◌/◌, ◌%◌, ◌^◌, ◌≤◌, ◌<◌}
use native.Mathlib.Nat.{le_trans, le_of_eq, lt_of_le_of_lt, le_of_suc-le-suc}
use native.Mathlib.Omega.{arith}
use borrow.Author.Tests.{ltb-true, ltb-false}
use lib.Dec.{ltb, leb, lit≤, lit<}
use lib.Ieee.{binary32, binary64, nan, to_bits}
use lib.Ieee.Nearest.{closest}
use Rattle.standard.specs.Convert.{demote}
use Rattle.lane_float_pattern.proofs.Rounding.{sign_fits}
use Rattle.lane_float_pattern.proofs.Fields.{field, digits, digits_are}
use Rattle.lane_float_pattern.proofs.Formats.{of_nan, far_below, below, inside, above, kept_le}
use Rattle.lane_float_parts.proofs.Upper.{upper, field_is, under, from, finite, sign_is}
use Rattle.lane_float_narrow.proofs.demote.Goals as goal

-- the sign, from the upper half
abbrev sign : ℕ → ℕ
sign b = b / 4294967296 - upper b

fits : (b : ℕ) → b < 2 ^ 64 → {a : ℕ} → a ≤ 2139095040 → sign b + a < 4294967296
fits b h {a} k = lt_of_le_of_lt (le_of_eq (ap (λ (s : ℕ). s + a) (sign_is b h))) (sign_fits binary32 (leb (2 ^ 63) b) a k)

some : (x : ℕ) → 863 ≤ x → 0 < x
some x h = omega arith

-- a field of ones: a NaN, or an infinity
ones_field : (b : ℕ) → b < 2 ^ 64 → 2146435072 ≤ upper b
    → cond (ltb 9218868437227405312 (b % 9223372036854775808)) (to_bits binary32 nan) (sign b + 2139095040) ≡ demote b
ones_field b h k = pick (ltb 9218868437227405312 (b % 9223372036854775808)) refl
  where
    past : (x : ℕ) → 2047 ≤ x → 1150 < x
    past x g = omega arith

    pick : (t : Bool) → ltb 9218868437227405312 (b % 9223372036854775808) ≡ t → cond t (to_bits binary32 nan) (sign b + 2139095040) ≡ demote b
    pick true e = of_nan binary64 binary32 b (ltb-true _ _ e)
    pick false e = ap (λ (s : ℕ). s + 2139095040) (sign_is b h) ∙ above b (past _ (from 2047 b k)) (ltb-false _ _ e)

pub returns-then-size-lt904921088 : goal.returns-then-size-lt904921088
returns-then-size-lt904921088 c = sign_is c.args.bits c.ranges.bits.fits
    ∙ far_below c.args.bits (under 863 c.args.bits c.if-size-lt904921088.true)

pub returns-then-size-ge2146435072 : goal.returns-then-size-ge2146435072
returns-then-size-ge2146435072 c =
    c.pick.ensures ∙ ap (λ (n : ℕ). cond (ltb 9218868437227405312 (c.args.bits % 9223372036854775808)) n (sign c.args.bits + 2139095040)) c.nan.ensures
    ∙ ones_field c.args.bits c.ranges.bits.fits c.if-size-ge2146435072.true

pub returns-then-size-ge1206910976 : goal.returns-then-size-ge1206910976
returns-then-size-ge1206910976 c =
    ap (λ (s : ℕ). s + 2139095040) (sign_is c.args.bits c.ranges.bits.fits)
    ∙ above c.args.bits (from 1151 c.args.bits c.if-size-ge1206910976.true)
    (finite c.args.bits c.if-size-ge2146435072.false)

-- what the shift keeps of a subnormal result
abbrev bits : goal.After-nearest_shift → ℕ
bits c = c.args.bits

low_is : (c : goal.After-nearest_shift) → c.nearest_shift.result ≡ closest (digits binary64 (bits c)) (2 ^ (926 - field binary64 (bits c)))
low_is c =
    c.nearest_shift.ensures
    ∙ ap₂ (λ (n x : ℕ). closest n (2 ^ (926 - x)))
    (digits_are binary64 (bits c) (some _ (from 863 (bits c) c.if-size-lt904921088.false))) (field_is (bits c))

low_field : (c : goal.After-nearest_shift) → field binary64 (bits c) < 897
low_field c = subst (λ (x : ℕ). x < 897) (field_is (bits c)) c.if-field-lt897.true

low_le : (c : goal.After-nearest_shift) → c.nearest_shift.result ≤ 2139095040
low_le c =
    le_trans (le_of_eq (low_is c)) (le_trans (kept_le (bits c) (926 - field binary64 (bits c)) (wide _ (low_field c))) (lit≤ tt))
  where
    wide : (x : ℕ) → x < 897 → 29 ≤ 926 - x
    wide x h = omega arith

pub overflow_cast-result : goal.overflow_cast-result
overflow_cast-result c = record { fits = lt_of_le_of_lt (low_le c) (lit< tt) }

pub overflow_add-result-then-field-lt897 : goal.overflow_add-result-then-field-lt897
overflow_add-result-then-field-lt897 c = record { fits = fits (bits c) c.ranges.bits.fits (low_le c) }

pub returns-then-field-lt897 : goal.returns-then-field-lt897
returns-then-field-lt897 c = ap₂ ◌+◌ (sign_is (bits c) c.ranges.bits.fits) (low_is c)
    ∙ below (bits c) (from 863 (bits c) c.if-size-lt904921088.false) (low_field c)

-- and of a normal one
abbrev bits' : goal.After-nearest_shift-2 → ℕ
bits' c = c.args.bits

high_is : (c : goal.After-nearest_shift-2) → c.nearest_shift-2.result ≡ closest (digits binary64 (bits' c)) (2 ^ 29)
high_is c = c.nearest_shift-2.ensures ∙ ap (λ (n : ℕ). closest n (2 ^ 29))
    (digits_are binary64 (bits' c) (some _ (from 863 (bits' c) c.if-size-lt904921088.false)))

high_le : (c : goal.After-nearest_shift-2) → (upper (bits' c) / 1048576 - 897) * 8388608 + c.nearest_shift-2.result ≤ 2139095040
high_le c = go (upper (bits' c)) c.nearest_shift-2.result c.if-size-ge1206910976.false (le_trans (le_of_eq (high_is c)) (kept_le (bits' c) 29 (lit≤ tt)))
  where
    go : (u k : ℕ) → u < 1206910976 → k ≤ 16777216 → (u / 1048576 - 897) * 8388608 + k ≤ 2139095040
    go u k h l = omega arith

pub overflow_add-result-2 : goal.overflow_add-result-2
overflow_add-result-2 c = record { fits = lt_of_le_of_lt (high_le c) (lit< tt) }

pub overflow_cast-result-2 : goal.overflow_cast-result-2
overflow_cast-result-2 c = record { fits = lt_of_le_of_lt (high_le c) (lit< tt) }

pub overflow_add-result-3 : goal.overflow_add-result-3
overflow_add-result-3 c = record { fits = fits (bits' c) c.ranges.bits.fits (high_le c) }

pub returns : goal.returns
returns c =
    ap₂ ◌+◌ (sign_is (bits' c) c.ranges.bits.fits)
    (ap₂ (λ (x k : ℕ). (x - 897) * 8388608 + k) (field_is (bits' c)) (high_is c))
    ∙ inside (bits' c) (subst (λ (x : ℕ). 897 ≤ x) (field_is (bits' c)) c.if-field-lt897.false)
    (le_of_suc-le-suc (under 1151 (bits' c) c.if-size-ge1206910976.false))

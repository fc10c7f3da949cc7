-- `lane_float_widen::promote` meets its contract. Assumes nothing.
use mathlib.Core.Path.{◌≡◌, refl, ap, ap₂, ◌∙◌}
use mathlib.Core.Bool.{Bool, true, false, cond}
use Prim.Native.Nat.{ℕ, ◌+◌, ◌-◌, ◌*◌, ◌/◌, ◌%◌, ◌^◌, ◌≤◌, ◌<◌}
use native.Mathlib.Nat.{le_of_eq, lt_of_le_of_lt}
use native.Mathlib.Omega.{arith}
use borrow.Author.Tests.{leb-true, leb-false}
use lib.Dec.{leb}
use lib.Ieee.{binary32, binary64, round, to_bits}
use Rattle.lane_float_pattern.proofs.Fields.{field}
use Rattle.lane_float_pattern.proofs.Rounding.{magnitude_le, sign_fits}
use Rattle.lane_float_pattern.proofs.Formats.{of_nan, no_field, some_field, infinity_kept}
use Rattle.lane_float_widen.proofs.promote.Goals as goal

abbrev sign : ℕ → ℕ
sign b = (b - b % 2147483648) * 4294967296

sign_is : (b : ℕ) → b < 4294967296 → sign b ≡ cond (leb 2147483648 b) 9223372036854775808 0
sign_is b h = pick (leb 2147483648 b) refl
  where
    pick : (t : Bool) → leb 2147483648 b ≡ t → sign b ≡ cond t 9223372036854775808 0
    pick true e = omega (arith, leb-true 2147483648 b e)
    pick false e = omega (arith, leb-false 2147483648 b e)

-- the field, by the test of one more than it
between : (b : ℕ) → 1 < (b / 8388608 + 1) % 256 → (0 < field binary32 b) × (field binary32 b ≤ 254)
between b h = (omega arith, omega arith)

none : (b : ℕ) → (b / 8388608 + 1) % 256 ≤ 1 → b % 2147483648 < 2139095040 → field binary32 b ≡ 0
none b h k = omega arith

digits_alone : (b : ℕ) → field binary32 b ≡ 0 → b % 2147483648 ≡ b % 8388608
digits_alone b e = omega arith

all : (b : ℕ) → 2139095040 ≤ b % 2147483648 → 254 < field binary32 b
all b h = omega arith

pub returns-then-bits-gt1 : goal.returns-then-bits-gt1
returns-then-bits-gt1 c =
    let f = between c.args.bits c.if-bits-gt1.true in
    ap (λ (s : ℕ). s + (c.args.bits % 2147483648 * 536870912 + 4035225266123964416)) (sign_is c.args.bits c.ranges.bits.fits)
    ∙ some_field c.args.bits f.0 f.1

pub returns-then-size-gt2139095040 : goal.returns-then-size-gt2139095040
unfolding to_bits
returns-then-size-gt2139095040 c = c.nan.ensures ∙ of_nan binary32 binary64 c.args.bits c.if-size-gt2139095040.true

pub overflow_add-result-then-size-lt2139095040 : goal.overflow_add-result-then-size-lt2139095040
overflow_add-result-then-size-lt2139095040 c =
    record {
      fits = lt_of_le_of_lt (le_of_eq (ap₂ ◌+◌
          (sign_is c.args.bits c.ranges.bits.fits) c.quotient.ensures))
          (sign_fits binary64 (leb 2147483648 c.args.bits) _ (magnitude_le binary64 _ _));
    }

pub returns-then-size-lt2139095040 : goal.returns-then-size-lt2139095040
returns-then-size-lt2139095040 c =
    let b = c.args.bits in
    let f = none b c.if-bits-gt1.false c.if-size-lt2139095040.true in
    ap₂ ◌+◌ (sign_is b c.ranges.bits.fits)
    (c.quotient.ensures ∙ ap (λ (n : ℕ). to_bits binary64 (round binary64 false n (2 ^ 149))) (digits_alone b f))
    ∙ no_field b f

pub returns-else-size-lt2139095040 : goal.returns-else-size-lt2139095040
returns-else-size-lt2139095040 c =
    let b = c.args.bits in
    ap (λ (s : ℕ). s + 9218868437227405312) (sign_is b c.ranges.bits.fits)
    ∙ infinity_kept b (all b c.if-size-lt2139095040.false) c.if-size-gt2139095040.false

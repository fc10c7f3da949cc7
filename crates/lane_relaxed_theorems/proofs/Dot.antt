-- The 16-bit dot, stated once over a pair of lanes: what it is over whole numbers, which of the allowed values it is, and how large. Assumes nothing.
use mathlib.Core.Path.{◌≡◌, refl, sym, ap, ap₂, ◌∙◌, subst⁻¹}
use mathlib.Core.Bool.{Bool, true, false}
use Prim.Native.Nat.{ℕ, ◌/◌, ◌%◌, ◌^◌, ◌<◌, ◌≤◌}
use native.Mathlib.Omega.{arith}
use borrow.Author.Tests.{eqb-true, eqb-false}
use lib.Dec.{eqb}
use lib.IntN.{ℤ, ◌+ℤ◌, ◌*ℤ◌}
use Rattle.standard.specs.Integer.{signed, modulo, sat_s, iadd, iadd_sat_s, imul, extend_s}
use Rattle.lane_relaxed_theorems.specs.Allowed.{dotted}
use Rattle.lane_relaxed_theorems.proofs.Whole.{Within, sum_within, sum_modulo, product_modulo, product_within, product_short, product_of_seven, plain}
use Rattle.lane_relaxed_theorems.proofs.Whole.{byte_within, lowest_byte, reads_back, not_capped, widened}

-- what is given: the sum of the products of the bytes of two 16-bit lanes, modulo 2^16
abbrev pub given : ℕ → ℕ → ℕ
given a b = iadd 16 (imul 16 (extend_s 8 16 (a % 2 ^ 8)) (extend_s 8 16 (b % 2 ^ 8))) (imul 16 (extend_s 8 16 (a / 2 ^ 8)) (extend_s 8 16 (b / 2 ^ 8)))

-- the exact sum, over whole numbers
abbrev pub exact : ℕ → ℕ → ℤ
exact a b = signed 8 (a % 2 ^ 8) *ℤ signed 8 (b % 2 ^ 8) +ℤ signed 8 (a / 2 ^ 8) *ℤ signed 8 (b / 2 ^ 8)

-- four inputs of −128
abbrev pub Four : ℕ → ℕ → Type 0
Four a b = (a ≡ 0x8080) × (b ≡ 0x8080)

module _ (a b : ℕ) (ha : a < 2 ^ 16) (hb : b < 2 ^ 16) where
  a_low : Within 128 127 (signed 8 (a % 2 ^ 8))
  a_low = byte_within (a % 2 ^ 8) (omega arith)

  a_high : Within 128 127 (signed 8 (a / 2 ^ 8))
  a_high = byte_within (a / 2 ^ 8) (omega arith)

  b_low : Within 128 127 (signed 8 (b % 2 ^ 8))
  b_low = byte_within (b % 2 ^ 8) (omega arith)

  b_high : Within 128 127 (signed 8 (b / 2 ^ 8))
  b_high = byte_within (b / 2 ^ 8) (omega arith)

  low_product : imul 16 (extend_s 8 16 (a % 2 ^ 8)) (extend_s 8 16 (b % 2 ^ 8)) ≡ modulo 16 (signed 8 (a % 2 ^ 8) *ℤ signed 8 (b % 2 ^ 8))
  low_product = product_modulo (signed 8 (a % 2 ^ 8)) (signed 8 (b % 2 ^ 8)) a_low b_low

  high_product : imul 16 (extend_s 8 16 (a / 2 ^ 8)) (extend_s 8 16 (b / 2 ^ 8)) ≡ modulo 16 (signed 8 (a / 2 ^ 8) *ℤ signed 8 (b / 2 ^ 8))
  high_product = product_modulo (signed 8 (a / 2 ^ 8)) (signed 8 (b / 2 ^ 8)) a_high b_high

  given_modulo : given a b ≡ modulo 16 (exact a b)
  given_modulo =
      ap₂ (iadd 16) low_product high_product ∙ sum_modulo (signed 8 (a % 2 ^ 8) *ℤ signed 8 (b % 2 ^ 8)) (signed 8 (a / 2 ^ 8) *ℤ signed 8 (b / 2 ^ 8))

  -- a product of bytes is its own signed reading, so the sum that is held is the exact one
  read : (x y : ℤ) → Within 128 127 x → Within 128 127 y → signed 16 (modulo 16 (x *ℤ y)) ≡ x *ℤ y
  read x y h k = reads_back (x *ℤ y) (widened 16256 16384 32768 32767 (x *ℤ y) (omega arith) (omega arith) (product_within x y h k))

  dotted_held : dotted extend_s a b ≡ sat_s 16 (exact a b)
  dotted_held =
      ap₂ (iadd_sat_s 16) low_product high_product
      ∙ ap (sat_s 16) (ap₂ ◌+ℤ◌ (read (signed 8 (a % 2 ^ 8)) (signed 8 (b % 2 ^ 8)) a_low b_low)
      (read (signed 8 (a / 2 ^ 8)) (signed 8 (b / 2 ^ 8)) a_high b_high))

  -- four −128 apart, one of the products is at most 128·127, and the exact sum fits 16 bits
  fits_low : (a % 2 ^ 8 ≡ 128 → b % 2 ^ 8 ≡ 128 → ⊥) → Within 32768 32767 (exact a b)
  fits_low short =
      widened 32512 32640 32768 32767 (exact a b) (omega arith) (omega arith)
      (sum_within 16256 16256 16256 16384 (signed 8 (a % 2 ^ 8) *ℤ signed 8 (b % 2 ^ 8)) (signed 8 (a / 2 ^ 8) *ℤ signed 8 (b / 2 ^ 8))
      (product_short (signed 8 (a % 2 ^ 8)) (signed 8 (b % 2 ^ 8)) a_low b_low
      (λ e f. short (lowest_byte (a % 2 ^ 8) (omega arith) e) (lowest_byte (b % 2 ^ 8) (omega arith) f)))
      (product_within (signed 8 (a / 2 ^ 8)) (signed 8 (b / 2 ^ 8)) a_high b_high))

  fits_high : (a / 2 ^ 8 ≡ 128 → b / 2 ^ 8 ≡ 128 → ⊥) → Within 32768 32767 (exact a b)
  fits_high short =
      widened 32512 32640 32768 32767 (exact a b) (omega arith) (omega arith)
      (sum_within 16256 16384 16256 16256 (signed 8 (a % 2 ^ 8) *ℤ signed 8 (b % 2 ^ 8)) (signed 8 (a / 2 ^ 8) *ℤ signed 8 (b / 2 ^ 8))
      (product_within (signed 8 (a % 2 ^ 8)) (signed 8 (b % 2 ^ 8)) a_low b_low)
      (product_short (signed 8 (a / 2 ^ 8)) (signed 8 (b / 2 ^ 8)) a_high b_high
      (λ e f. short (lowest_byte (a / 2 ^ 8) (omega arith) e) (lowest_byte (b / 2 ^ 8) (omega arith) f))))

  fits : (Four a b → ⊥) → Within 32768 32767 (exact a b)
  fits apart = by (eqb (a % 2 ^ 8) 128) (eqb (b % 2 ^ 8) 128) refl refl
    where
      by : (s t : Bool) → eqb (a % 2 ^ 8) 128 ≡ s → eqb (b % 2 ^ 8) 128 ≡ t → Within 32768 32767 (exact a b)
      by false t es et = fits_low (λ e f. eqb-false (a % 2 ^ 8) 128 es e)
      by true false es et = fits_low (λ e f. eqb-false (b % 2 ^ 8) 128 et f)
      by true true es et =
          let low-a = eqb-true (a % 2 ^ 8) 128 es in
          let low-b = eqb-true (b % 2 ^ 8) 128 et in
          fits_high (λ e f. apart (omega arith, omega arith))

  -- the value of the signed reading, which the standard allows
  pub as_signed : (Four a b → ⊥) → given a b ≡ dotted extend_s a b
  as_signed apart = given_modulo ∙ sym (not_capped (exact a b) (fits apart)) ∙ sym dotted_held

  -- bytes of 7 bits in the second lane: the sum never wraps, and lies within −32512..32258
  module _ (low : b % 2 ^ 8 ≤ 127) (high : b / 2 ^ 8 ≤ 127) where
    seven : (y : ℕ) → y ≤ 127 → Within 0 127 (signed 8 y)
    seven y h = subst⁻¹ (Within 0 127) (plain y h) h

    pub seven_within : Within 32512 32258 (exact a b)
    seven_within =
        sum_within 16256 16129 16256 16129 (signed 8 (a % 2 ^ 8) *ℤ signed 8 (b % 2 ^ 8)) (signed 8 (a / 2 ^ 8) *ℤ signed 8 (b / 2 ^ 8))
        (product_of_seven (signed 8 (a % 2 ^ 8)) (signed 8 (b % 2 ^ 8)) a_low (seven (b % 2 ^ 8) low))
        (product_of_seven (signed 8 (a / 2 ^ 8)) (signed 8 (b / 2 ^ 8)) a_high (seven (b / 2 ^ 8) high))

    pub never_wraps : signed 16 (given a b) ≡ exact a b
    never_wraps = ap (signed 16) given_modulo ∙ reads_back (exact a b) (widened 32512 32258 32768 32767 (exact a b) (omega arith) (omega arith) seven_within)

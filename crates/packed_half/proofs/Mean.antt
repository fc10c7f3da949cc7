-- The average of packed lanes of 1 + v bits, rounded up: the bits that either lane has, less half of those in which they differ. Assumes nothing.
use mathlib.Core.Path.{◌≡◌}
use Prim.Native.Nat.{ℕ, ◌+◌, ◌-◌, ◌*◌, ◌/◌, ◌^◌, ◌<◌, ◌≤◌}
use native.Mathlib.Nat.{mod-eq_of_lt}
use native.Mathlib.Omega.{arith}
use lib.Pow.{pow_pos, pow-add}
use lib.Bits.{bit_and, bit_or, bit_xor, and_mask, and_le_l, xor_lt, xor_add_and, or_add_and}
use Rattle.standard.specs.Integer.{iavgr_u}
use Rattle.packed_half.proofs.Packed.{Packed, lanewise, or, xor, minus, minus_le, first, second, shift_masked, packed_is}
use Rattle.packed_half.proofs.Sum.{lows, low_mask}

half_le : (v p q : ℕ) → bit_and (bit_xor p q / 2) (2 ^ v - 1) ≤ bit_or p q
half_le v p q = omega (arith, and_le_l (bit_xor p q / 2) (2 ^ v - 1), xor_add_and p q, or_add_and p q)

mean_lane : (v p q : ℕ) → p < 2 ^ (1 + v) → q < 2 ^ (1 + v) → bit_or p q - bit_and (bit_xor p q / 2) (2 ^ v - 1) ≡ iavgr_u (1 + v) p q
mean_lane v p q hp hq =
    let small : bit_xor p q / 2 < 2 ^ v = omega (arith, xor_lt (1 + v) p q hp hq, pow-add 2 1 v) in
    rw (and_mask (bit_xor p q / 2) v, mod-eq_of_lt small) (omega (arith, xor_add_and p q, or_add_and p q))

module _ (v n a b : ℕ) (ha : a < 2 ^ ((1 + v) * n)) (hb : b < 2 ^ ((1 + v) * n)) where
  half_apart : Packed (1 + v) n a b (bit_and (bit_xor a b / 2) (lows v n)) (λ p q. bit_and (bit_xor p q / 2) (2 ^ v - 1))
  half_apart = shift_masked (xor (first ha) (second hb)) (low_mask v) 1 (λ p q hp hq. omega (arith, pow-add 2 1 v, pow_pos v))

  pub mean_fits : bit_and (bit_xor a b / 2) (lows v n) ≤ bit_or a b
  mean_fits = minus_le (or (first ha) (second hb)) half_apart (λ p q hp hq. half_le v p q)

  pub mean_is : bit_or a b - bit_and (bit_xor a b / 2) (lows v n) ≡ lanewise (1 + v) n (iavgr_u (1 + v)) a b
  mean_is = packed_is (minus (or (first ha) (second hb)) half_apart (λ p q hp hq. half_le v p q)) (iavgr_u (1 + v)) (mean_lane v)

-- From the two halves of a vector to the vector, over the width.
-- Assumes nothing.
use mathlib.Core.Path.{◌≡◌, refl, sym, ap, ap₂, ◌∙◌}
use mathlib.Core.Bool.{Bool, true, false, cond, ◌&&◌}
use mathlib.Core.List.{List, [], ◌∷◌, ◌++◌, map}
use Prim.Native.Nat.{ℕ, ◌+◌, ◌*◌, ◌/◌, ◌%◌, ◌^◌, ◌<◌, ◌≤◌}
use native.Mathlib.Nat.{add_comm, mul_comm, one-mul, zero-mul, mod-eq_of_lt, lt_of_lt_of_le}
use native.Mathlib.Omega.{arith}
use borrow.Author.Tests.{eq-eqb, ne_eqb, eqb-true, eqb-false}
use lib.Bits.{bit_or, or_add_and, or_shifted_r, and_le_l, and_le_r}
use lib.Dec.{eqb}
use lib.ListN.{length, length-map}
use lib.Pow.{pow_mono, shl_lt}
use Rattle.standard.specs.Lanes.{digits, joined, unary, binary}
use Rattle.standard.specs.Vector.{no_zero, any_true, all_true, bitmask}
use Rattle.standard.proofs.Digits.{length_digits, joined_append}
use Rattle.standard.proofs.Halves.{lanes_halves, unary_halves, binary_halves, map_append}
use Rattle.packed_half.specs.Half.{Divides, half_unary, half_binary, half_all_true, half_bitmask, sign_bit}
use Rattle.packed_half.proofs.Signs.{signs_below}
use Rattle.simd.specs.declared.V128.{V128}
use Rattle.simd.specs.Number.{number}

module _ (w : ℕ) (d : Divides w) (a : V128) (ha : a.lo < 2 ^ 64) where
  pub both_unary : (f : ℕ → ℕ) {lo hi : ℕ} → lo ≡ half_unary w f a.lo → hi ≡ half_unary w f a.hi → lo + 2 ^ 64 * hi ≡ unary w f (number a)
  unfolding half_unary
  both_unary f el eh = unary_halves w (64 / w) d.0 d.1 a.lo a.hi ha f el eh

  pub both_binary : (f : ℕ → ℕ → ℕ) (b : V128) → b.lo < 2 ^ 64 → {lo hi : ℕ} → lo ≡ half_binary w f a.lo b.lo → hi ≡ half_binary w f a.hi b.hi
      → lo + 2 ^ 64 * hi ≡ binary w f (number a) (number b)
  unfolding half_binary
  both_binary f b hb el eh = binary_halves w (64 / w) d.0 d.1 a.lo a.hi ha f b.lo b.hi hb el eh

  -- all_true of both halves
  pub both_all_true : (p q : Bool) → cond p 1 0 ≡ half_all_true w a.lo → cond q 1 0 ≡ half_all_true w a.hi → cond (p && q) 1 0 ≡ all_true w (number a)
  unfolding half_all_true all_true
  both_all_true p q ep eq =
      ones p q ∙ ap₂ ◌*◌ ep eq ∙ sym (no_zero_append (digits w (64 / w) a.lo) (digits w (64 / w) a.hi))
      ∙ ap no_zero (sym (lanes_halves w (64 / w) d.0 d.1 a.lo a.hi ha))
    where
      ones : (p q : Bool) → ◌≡◌ {A = ℕ} (cond (p && q) 1 0) (cond p 1 0 * cond q 1 0)
      ones true true = refl
      ones true false = refl
      ones false q = sym (zero-mul (cond q 1 0))

      by : (t : Bool) (m k : ℕ) → cond t 0 (m * k) ≡ cond t 0 m * k
      by true m k = sym (zero-mul k)
      by false m k = refl

      no_zero_append : (xs ys : List ℕ) → no_zero (xs ++ ys) ≡ no_zero xs * no_zero ys
      no_zero_append [] ys = sym (one-mul (no_zero ys))
      no_zero_append (x ∷ xs) ys = ap (λ (n : ℕ). cond (eqb x 0) 0 n) (no_zero_append xs ys) ∙ by (eqb x 0) (no_zero xs) (no_zero ys)

-- a bitmask of n lanes is below 2^n
mask_lt : (w x : ℕ) {m : ℕ} → m ≡ half_bitmask w x → m < 2 ^ (64 / w)
unfolding half_bitmask
mask_lt w x e = rw e (signs_below w (64 / w) x)

-- the bitmask of the high half put above that of the low, in 32 bits
module _ (w : ℕ) (d : Divides w) (fits : 64 / w + 64 / w ≤ 32) (a : V128) (ha : a.lo < 2 ^ 64) where
  above : {lo hi : ℕ} → lo ≡ half_bitmask w a.lo → hi ≡ half_bitmask w a.hi → bit_or lo (hi * 2 ^ (64 / w) % 2 ^ 32) ≡ lo + 2 ^ (64 / w) * hi
  above {lo} {hi} el eh =
      ap (bit_or lo) (mod-eq_of_lt (lt_of_lt_of_le (shl_lt (64 / w) (64 / w) (mask_lt w a.hi eh)) (pow_mono fits)))
      ∙ or_shifted_r hi (64 / w) lo (mask_lt w a.lo el) ∙ add_comm (hi * 2 ^ (64 / w)) lo ∙ ap (λ (n : ℕ). lo + n) (mul_comm hi (2 ^ (64 / w)))

  pub both_bitmask : {lo hi : ℕ} → lo ≡ half_bitmask w a.lo → hi ≡ half_bitmask w a.hi → bit_or lo (hi * 2 ^ (64 / w) % 2 ^ 32) ≡ bitmask w (number a)
  unfolding half_bitmask bitmask
  both_bitmask el eh =
      above el eh
      ∙ ap₂ (λ (l h : ℕ). l + 2 ^ (64 / w) * h) el eh
      ∙ ap (λ (n : ℕ). joined 1 (map (sign_bit w) (digits w (64 / w) a.lo)) + 2 ^ n * joined 1 (map (sign_bit w) (digits w (64 / w) a.hi)))
      (sym (one-mul (length (map (sign_bit w) (digits w (64 / w) a.lo))) ∙ length-map (digits w (64 / w) a.lo) (sign_bit w)
      ∙ length_digits w (64 / w) a.lo))
      ∙ sym (joined_append 1 (map (sign_bit w) (digits w (64 / w) a.lo)) (map (sign_bit w) (digits w (64 / w) a.hi)))
      ∙ ap (joined 1) (sym (map_append (sign_bit w) (digits w (64 / w) a.lo) (digits w (64 / w) a.hi)))
      ∙ ap (λ (ds : List ℕ). joined 1 (map (sign_bit w) ds)) (sym (lanes_halves w (64 / w) d.0 d.1 a.lo a.hi ha))

-- any bit of either half
pub both_any_true : (a b : ℕ) (r : Bool) → cond r 1 0 ≡ any_true (bit_or a b) → cond r 1 0 ≡ any_true (a + 2 ^ 64 * b)
unfolding any_true
both_any_true a b r e = e ∙ ap (λ (t : Bool). cond t 0 1) (pick (eqb (bit_or a b) 0) refl)
  where
    pick : (t : Bool) → eqb (bit_or a b) 0 ≡ t → t ≡ eqb (a + 2 ^ 64 * b) 0
    pick true t =
        let none : bit_or a b ≡ 0 = eqb-true (bit_or a b) 0 t in
        sym (eq-eqb (a + 2 ^ 64 * b) 0 (omega (arith, or_add_and a b, and_le_l a b, and_le_r a b)))
    pick false t = sym (ne_eqb (a + 2 ^ 64 * b) 0 (λ z. eqb-false (bit_or a b) 0 t (omega (arith, or_add_and a b))))

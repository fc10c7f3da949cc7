-- The bits of a pattern with its sign set, and of two patterns together, over both float formats. Assumes nothing.
use mathlib.Core.Path.{◌≡◌, refl, sym, ap, ap₂, ◌∙◌, subst}
use mathlib.Core.Bool.{Bool, true, false, not}
use mathlib.Core.Logic.{⊎_elim}
use Prim.Native.Nat.{ℕ, zero, suc, ◌+◌, ◌*◌, ◌/◌, ◌%◌, ◌^◌, ◌<◌, ◌≤◌}
use native.Mathlib.Nat.{mod-lt}
use native.Mathlib.Omega.{arith}
use borrow.Author.Tests.{ltb-false, le-ltb, not-true, not-false}
use lib.Bits.{bit_or, or_block, or_mod, or_self, or_zero_r, or_add_and, and_le_l, and_le_r}
use lib.Pow.{pow_pos, split}
use lib.Dec.{T, ltb}
use lib.Ieee
use lib.Ieee.{Format, binary32, binary64, top, ones, hid, of_bits, nan_bits}
use lib.Ieee.Bits.{is_false, nan_bits_above}
use Rattle.lane_float_theorems.proofs.OnePattern.{one_pattern}
use Rattle.lane_float_value.proofs.FloatOrder.{with_nan, eq_unordered}

-- how many bits stand below the sign
abbrev below_sign : Format → ℕ
below_sign binary32 = 31
below_sign binary64 = 63

top_is : (f : Format) → top f ≡ 2 ^ below_sign f
top_is binary32 = refl
top_is binary64 = refl

or_one : (h : ℕ) → h < 2 → bit_or h 1 ≡ 1
or_one zero h = refl
or_one (suc zero) h = refl
or_one (suc (suc n)) h = absurd (omega arith)

-- the bit of weight 2 ^ k set in a number of k + 1 bits
set_top : (k n : ℕ) → n / 2 ^ k < 2 → bit_or n (2 ^ k) ≡ 2 ^ k + n % 2 ^ k
set_top k n h =
    ap₂ bit_or (sym (split n k)) (tidy (2 ^ k))
    ∙ or_block k (n / 2 ^ k) 1 (n % 2 ^ k) 0 (mod-lt n (pow_pos k)) (pow_pos k)
    ∙ ap₂ (λ (x y : ℕ). x * 2 ^ k + y) (or_one (n / 2 ^ k) h) (or_zero_r (n % 2 ^ k))
    ∙ once (2 ^ k) (n % 2 ^ k)
  where
    tidy : (x : ℕ) → x ≡ 1 * x + 0
    tidy x = omega arith

    once : (x y : ℕ) → 1 * x + y ≡ x + y
    once x y = omega arith

pub set_sign : (f : Format) (n : ℕ) → n < 2 * top f → bit_or n (top f) ≡ top f + n % top f
set_sign binary32 n h = set_top 31 n (omega arith)
set_sign binary64 n h = set_top 63 n (omega arith)

-- two patterns together have the magnitudes together
together : (f : Format) (a b : ℕ) → bit_or a b % top f ≡ bit_or (a % top f) (b % top f)
together f a b = rw top_is (or_mod a b (below_sign f))

-- so where they are no NaN, neither of the two is one
pub apart : (f : Format) (a b : ℕ) → nan_bits f (bit_or a b) ≡ false → T (not (nan_bits f a)) × T (not (nan_bits f b))
apart f a b e =
    let h = subst (λ (x : ℕ). x ≤ ones f * hid f) (together f a b) (ltb-false _ _ (sym (nan_bits_above f (bit_or a b)) ∙ e)) in
    let x = a % top f in
    let y = b % top f in
    (number a (omega (arith, h, or_add_and x y, and_le_r x y)), number b (omega (arith, h, or_add_and x y, and_le_l x y)))
  where
    number : (n : ℕ) → n % top f ≤ ones f * hid f → T (not (nan_bits f n))
    number n h = subst (λ (b : Bool). T (not b)) (sym (nan_bits_above f n ∙ le-ltb _ _ h)) tt

module _ (f : Format) (a b : ℕ) (ha : a < 2 * top f) (hb : b < 2 * top f) where
  -- patterns of equal numbers have one magnitude
  pub same_size : Ieee.eq (of_bits f a) (of_bits f b) ≡ true → a % top f ≡ b % top f
  same_size e = ⊎_elim (λ l. ap (λ (x : ℕ). x % top f) l) (λ r. r.0 ∙ sym r.1) (one_pattern f a b ha hb e)

  -- where two patterns together are a NaN's, the numbers are not equal
  pub unequal : nan_bits f (bit_or a b) ≡ true → false ≡ Ieee.eq (of_bits f a) (of_bits f b)
  unequal n = decide (nan_bits f a) (nan_bits f b) (Ieee.eq (of_bits f a) (of_bits f b)) refl refl refl
    where
      decide : (s t u : Bool) → nan_bits f a ≡ s → nan_bits f b ≡ t → Ieee.eq (of_bits f a) (of_bits f b) ≡ u → false ≡ u
      decide s t false p q r = refl
      decide true t true p q r = with_nan f a b refl Ieee.eq eq_unordered (rw p) ∙ r
      decide false true true p q r = with_nan f a b refl Ieee.eq eq_unordered (rw (p, q)) ∙ r
      decide false false true p q r =
          sym (sym n ∙ nan_bits_above f (bit_or a b)
          ∙ ap (ltb (ones f * hid f)) (together f a b ∙ ap (bit_or (a % top f)) (sym (same_size r)) ∙ or_self (a % top f))
          ∙ sym (nan_bits_above f a) ∙ p)

-- a test whether two patterns together are a number
module _ (f : Format) (a b : ℕ) {t : Bool} (e : t ≡ not (nan_bits f (bit_or a b))) where
  pub numbers : t ≡ true → (nan_bits f a ≡ false) × (nan_bits f b ≡ false)
  numbers h = let p = apart f a b (not-true _ (sym e ∙ h)) in (is_false _ p.0, is_false _ p.1)

  pub differ : a < 2 * top f → b < 2 * top f → t ≡ false → Ieee.eq (of_bits f a) (of_bits f b) ≡ false
  differ ha hb h = sym (unequal f a b ha hb (not-false _ (sym e ∙ h)))

-- Equal numbers have one pattern, but for the zeros (`standard/specs/Float.antt`, `under`): two patterns whose floats are equal are the same pattern, or both
-- are zeros, of either sign. Assumes nothing.
use mathlib.Core.Path.{◌≡◌, refl, sym, ap, ◌∙◌, subst}
use mathlib.Core.Bool.{Bool, true, false, not, cond, ◌&&◌, ◌||◌, beq, true≢false}
use mathlib.Core.Logic.{◌⊎◌, inl, inr}
use Prim.Native.Nat.{ℕ, zero, suc, ◌+◌, ◌-◌, ◌*◌, ◌/◌, ◌%◌, ◌^◌, ◌≤◌, ◌<◌}
use native.Mathlib.Nat.{mul_assoc, mul_right_comm, mul-one, zero-mul, mul-pos, eq_of_mul-eq-mul_right, zero-lt-suc}
use native.Mathlib.Omega.{arith}
use borrow.Author.Tests.{leb-true, leb-false, eqb-true, ne_eqb}
use lib.IntN.{ℤ, pos, negsuc}
use lib.Dec.{T, leb, eqb}
use lib.Pow.{pow-add, pow_pos, pow-lt}
use lib.Ieee.{Float, nan, inf, fin, Format, binary32, binary64, prec, low, hid, top, up, down, size, eq, fits, is_nan, of_bits, to_bits}
use lib.Ieee.Digits.{size-le}
use lib.Ieee.Fits.{down_pos, up_pos}
use lib.Ieee.Bits.{of_bits-fits, to_bits-of_bits}
use lib.Ieee.Exact.{HasValue}
use Rattle.lane_float_theorems.proofs.Nearest.{fine, pattern_of}

-- both are zeros
abbrev pub Zeros : Format → ℕ → ℕ → Type 0
Zeros f a b = (a % top f ≡ 0) × (b % top f ≡ 0)

both : (p q : Bool) → (p && q) ≡ true → (p ≡ true) × (q ≡ true)
both true q e = (refl, e)
both false q e = absurd (true≢false (sym e))

same_sign : (s t z : Bool) → (beq s t || z) ≡ true → z ≡ false → s ≡ t
same_sign true true z e f = refl
same_sign false false z e f = refl
same_sign true false z e f = absurd (true≢false (sym e ∙ f))
same_sign false true z e f = absurd (true≢false (sym e ∙ f))

-- ---- a finite float as a whole number of its format's smallest value

module _ (f : Format) (s : Bool) (m : ℕ) where
  units_of : (e : ℤ) → down e ≤ 2 ^ low f → (v : ℕ) × (m * up e * 2 ^ low f ≡ v * down e)
  units_of (pos k) h = (m * 2 ^ k * 2 ^ low f, sym (mul-one (m * 2 ^ k * 2 ^ low f)))
  units_of (negsuc k) h =
      let l = low f in
      let power : 2 ^ l ≡ 2 ^ (l - suc k) * 2 ^ suc k = ap (λ (x : ℕ). 2 ^ x) (by (leb (suc k) l) refl) ∙ pow-add 2 (l - suc k) (suc k) in
      (m * 2 ^ (l - suc k), ap (λ (x : ℕ). x * 2 ^ l) (mul-one m) ∙ ap (λ (x : ℕ). m * x) power ∙ sym (mul_assoc m (2 ^ (l - suc k)) (2 ^ suc k)))
    where
      beyond : low f < suc k → ⊥
      beyond g = let p = pow-lt g in omega arith

      by : (b : Bool) → leb (suc k) (low f) ≡ b → low f ≡ low f - suc k + suc k
      by true e = let g = leb-true (suc k) (low f) e in omega arith
      by false e = absurd (beyond (leb-false (suc k) (low f) e))

-- ---- the patterns of equal numbers

module _ (f : Format) where
  -- of two magnitudes that are equal
  equal_patterns : (s : Bool) (m : ℕ) (e : ℤ) (n : ℕ) (d : ℤ) → down d ≤ 2 ^ low f → m * up e * down d ≡ n * up d * down e
      → to_bits f (fin s m e) ≡ to_bits f (fin s n d)
  equal_patterns s m e n d h g =
      let l = 2 ^ low f in
      let u = units_of f s n d h in
      let here : m * up e * l ≡ u.0 * down e =
      eq_of_mul-eq-mul_right (down d) (down_pos d) (m * up e * l) (u.0 * down e)
      (mul_right_comm (m * up e) l (down d) ∙ ap (λ (x : ℕ). x * l) g ∙ mul_right_comm (n * up d) (down e) l ∙ ap (λ (x : ℕ). x * down e) u.1
      ∙ mul_right_comm u.0 (down d) (down e)) in
      pattern_of f s u.0 (fin s m e) (refl, here) ∙ sym (pattern_of f s u.0 (fin s n d) (refl, u.1))

  zero_pattern : (s : Bool) (e : ℤ) → to_bits f (fin s 0 e) % top f ≡ 0
  zero_pattern s e =
      let none : 0 * up e * 2 ^ low f ≡ 0 * down e = ap (λ (x : ℕ). x * 2 ^ low f) (zero-mul (up e)) ∙ zero-mul (2 ^ low f) ∙ sym (zero-mul (down e)) in
      ap (λ (x : ℕ). x % top f) (pattern_of f s 0 (fin s 0 e) (refl, none)) ∙ by (size 0 - prec f) (let z = size-le 0 0 (pow_pos 0) in omega arith) f s
    where
      by : (k : ℕ) → k ≡ 0 → (f : Format) (s : Bool) → (cond s (top f) 0 + k * hid f + 0 / 2 ^ k) % top f ≡ 0
      by zero z binary32 true = refl
      by zero z binary32 false = refl
      by zero z binary64 true = refl
      by zero z binary64 false = refl
      by (suc k) z f s = absurd (omega arith)

module _ (f : Format) (a b : ℕ) (ha : a < 2 * top f) (hb : b < 2 * top f) where
  its_own : (n : ℕ) → n < 2 * top f → (x : Float) → of_bits f n ≡ x → T (not (is_nan x)) → n ≡ to_bits f x
  its_own n h x p t = sym (to_bits-of_bits f n h (subst (λ (y : Float). T (not (is_nan y))) (sym p) t)) ∙ ap (to_bits f) p

  fits_of : (n : ℕ) (x : Float) → of_bits f n ≡ x → T (fits f x)
  fits_of n x p = subst (λ (y : Float). T (fits f y)) p (of_bits-fits f n)

  by : (x y : Float) → of_bits f a ≡ x → of_bits f b ≡ y → eq x y ≡ true → (a ≡ b) ⊎ Zeros f a b
  unfolding eq is_nan
  by nan y p q e = absurd (true≢false (sym e))
  by (inf s) nan p q e = absurd (true≢false (sym e))
  by (inf s) (fin t n d) p q e = absurd (true≢false (sym e))
  by (fin s m e') nan p q e = absurd (true≢false (sym e))
  by (fin s m e') (inf t) p q e = absurd (true≢false (sym e))
  by (inf true) (inf true) p q e = inl (its_own a ha (inf true) p tt ∙ sym (its_own b hb (inf true) q tt))
  by (inf false) (inf false) p q e = inl (its_own a ha (inf false) p tt ∙ sym (its_own b hb (inf false) q tt))
  by (inf true) (inf false) p q e = absurd (true≢false (sym e))
  by (inf false) (inf true) p q e = absurd (true≢false (sym e))
  by (fin s zero e') (fin t zero d) p q e =
      inr (
        ap (λ (x : ℕ). x % top f) (its_own a ha (fin s zero e') p tt) ∙ zero_pattern f s e',
        ap (λ (x : ℕ). x % top f) (its_own b hb (fin t zero d) q tt)
            ∙ zero_pattern f t d,
      )
  by (fin s zero e') (fin t (suc n) d) p q e =
      let g = eqb-true (zero * up e' * down d) (suc n * up d * down e') (both _ _ e).0 in
      absurd (let h = mul-pos (mul-pos (zero-lt-suc n) (up_pos d)) (down_pos e') in omega
      (arith, g, zero-mul (up e'), zero-mul (down d), ap (λ (x : ℕ). x * down d) (zero-mul (up e'))))
  by (fin s (suc m) e') (fin t zero d) p q e =
      let g = eqb-true (suc m * up e' * down d) (zero * up d * down e') (both _ _ e).0 in
      absurd (let h = mul-pos (mul-pos (zero-lt-suc m) (up_pos e')) (down_pos d) in omega
      (arith, g, zero-mul (up d), zero-mul (down e'), ap (λ (x : ℕ). x * down e') (zero-mul (up d))))
  by (fin s (suc m) e') (fin t (suc n) d) p q e =
      let g = both _ _ e in
      let some = mul-pos (mul-pos (zero-lt-suc m) (up_pos e')) (down_pos d) in
      let signs : s ≡ t = same_sign s t (eqb (suc m * up e' * down d) 0) g.1 (ne_eqb (suc m * up e' * down d) 0 (λ z. omega (arith, z))) in
      inl
      (its_own a ha (fin s (suc m) e') p tt
      ∙ equal_patterns f s (suc m) e' (suc n) d (fine f t n d (fits_of b (fin t (suc n) d) q))
      (eqb-true (suc m * up e' * down d) (suc n * up d * down e') g.0)
      ∙ ap (λ (r : Bool). to_bits f (fin r (suc n) d)) signs ∙ sym (its_own b hb (fin t (suc n) d) q tt))

  pub one_pattern : eq (of_bits f a) (of_bits f b) ≡ true → (a ≡ b) ⊎ Zeros f a b
  one_pattern e = by (of_bits f a) (of_bits f b) refl refl e

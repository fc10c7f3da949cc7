-- A quotient of zeros in place of one with a NaN, over both float formats. Assumes nothing.
use mathlib.Core.Path.{◌≡◌, refl, ap, ap₂, ◌∙◌}
use mathlib.Core.Bool.{Bool, true, false, not, cond, ◌||◌}
use Prim.Native.Nat.{ℕ}
use lib.Ieee.{Format, binary32, binary64, nan, div, of_bits, to_bits, nan_bits}
use lib.Ieee.Bits.{is_false}
use Rattle.lane_float_value.proofs.FloatOrder.{ordered}
use Rattle.lane_float_sums.proofs.Absorb.{absorbed, div_absorbs}

zero_is_number : (f : Format) → nan_bits f 0 ≡ false
unfolding nan_bits
zero_is_number binary32 = refl
zero_is_number binary64 = refl

-- the quotient of zeros is a NaN
zeros : (f : Format) → to_bits f (div f (of_bits f 0) (of_bits f 0)) ≡ to_bits f nan
unfolding div of_bits
zeros binary32 = refl
zeros binary64 = refl

-- two patterns, and a test whether neither of them is a NaN
module _ (f : Format) (a b : ℕ) {t : Bool} (e : t ≡ not (nan_bits f a || nan_bits f b)) where
  picked : (n : ℕ) {x : ℕ} → (t ≡ true → nan_bits f n ≡ false) → x ≡ cond t n 0 → nan_bits f x ≡ false
  picked n k h = ap (nan_bits f) h ∙ decide t refl
    where
      decide : (u : Bool) → t ≡ u → nan_bits f (cond u n 0) ≡ false
      decide true g = k g
      decide false g = zero_is_number f

  pub first : {x : ℕ} → x ≡ cond t a 0 → nan_bits f x ≡ false
  first = picked a (λ h. is_false _ (ordered f a b e h).0)

  pub second : {x : ℕ} → x ≡ cond t b 0 → nan_bits f x ≡ false
  second = picked b (λ h. is_false _ (ordered f a b e h).1)

  pub quotient : {x y : ℕ} → x ≡ cond t a 0 → y ≡ cond t b 0
      → to_bits f (div f (of_bits f x) (of_bits f y)) ≡ to_bits f (div f (of_bits f a) (of_bits f b))
  quotient p q = ap₂ (λ (m n : ℕ). to_bits f (div f (of_bits f m) (of_bits f n))) p q ∙ decide t refl
    where
      decide : (u : Bool) → t ≡ u
          → to_bits f (div f (of_bits f (cond u a 0)) (of_bits f (cond u b 0))) ≡ to_bits f (div f (of_bits f a) (of_bits f b))
      decide true g = refl
      decide false g = zeros f ∙ absorbed f a b e (div f) (div_absorbs f) g

-- Splat, extract and replace in terms of the list of lanes, and a lane number that is judged.
-- Assumes nothing.
use mathlib.Core.Path.{◌≡◌, refl, sym, ap, ap₂, ◌∙◌, subst⁻¹}
use mathlib.Core.List.{List, [], ◌∷◌}
use Prim.Native.Nat.{ℕ, ◌+◌, ◌*◌, ◌/◌, ◌^◌, ◌<◌, ◌≤◌}
use native.Mathlib.Nat.{add-zero, mod-eq_of_lt}
use borrow.Author.Tests.{lt-ltb, le-ltb}
use lib.ListN.{get_or, set, replicate, get_or-eq_default}
use Rattle.standard.specs.Lanes.{joined, lanes, splat, extract, replace}
use Rattle.standard.specs.Refusal.{Answer, given, refused, lane_first, at_lane}
use Rattle.standard.proofs.Digits.{length_digits, low_digit, rest_digits}

pub splat_is : (w c : ℕ) → joined w (replicate (128 / w) c) ≡ splat w c
unfolding splat
splat_is w c = refl

pub extract_is : (w x i : ℕ) {xs : List ℕ} → xs ≡ lanes w x → get_or xs i 0 ≡ extract w x i
unfolding extract
extract_is w x i e = ap (λ (xs : List ℕ). get_or xs i 0) e

pub extract_past : (w x i : ℕ) → 128 / w ≤ i → 0 ≡ extract w x i
unfolding extract
extract_past w x i h = sym (get_or-eq_default (lanes w x) 0 (subst⁻¹ (λ (n : ℕ). n ≤ i) (length_digits w (128 / w) x) h))

pub replace_is : (w x i c : ℕ) {xs : List ℕ} → xs ≡ lanes w x → joined w (set xs i c) ≡ replace w x i c
unfolding replace
replace_is w x i c e = ap (λ (xs : List ℕ). joined w (set xs i c)) e

-- two lanes of 64 bits
pub splat_64 : (c : ℕ) → c + 2 ^ 64 * c ≡ splat 64 c
unfolding splat
splat_64 c = ap (λ (d : ℕ). c + 2 ^ 64 * d) (sym (add-zero c))

module _ (a b : ℕ) (ha : a < 2 ^ 64) (hb : b < 2 ^ 64) where
  pub two_lanes : lanes 64 (a + 2 ^ 64 * b) ≡ a ∷ b ∷ []
  two_lanes = ap₂ (λ (l h : ℕ). l ∷ h ∷ []) (low_digit 64 a b ha) (rw (rest_digits 64 a b ha) (mod-eq_of_lt hb))

  pub extract_low : a ≡ extract 64 (a + 2 ^ 64 * b) 0
  unfolding extract
  extract_low = ap (λ (xs : List ℕ). get_or xs 0 0) (sym two_lanes)

  pub extract_high : b ≡ extract 64 (a + 2 ^ 64 * b) 1
  unfolding extract
  extract_high = ap (λ (xs : List ℕ). get_or xs 1 0) (sym two_lanes)

  pub replace_low : (c : ℕ) → c + 2 ^ 64 * b ≡ replace 64 (a + 2 ^ 64 * b) 0 c
  unfolding replace
  replace_low c = ap (λ (d : ℕ). c + 2 ^ 64 * d) (sym (add-zero b)) ∙ ap (λ (xs : List ℕ). joined 64 (set xs 0 c)) (sym two_lanes)

  pub replace_high : (c : ℕ) → a + 2 ^ 64 * c ≡ replace 64 (a + 2 ^ 64 * b) 1 c
  unfolding replace
  replace_high c = ap (λ (d : ℕ). a + 2 ^ 64 * d) (sym (add-zero c)) ∙ ap (λ (xs : List ℕ). joined 64 (set xs 1 c)) (sym two_lanes)

-- a lane number below the lane count, and one that is not
pub lane_taken : {A : Type 0} (w lane : ℕ) {a b : A} → lane < 128 / w → a ≡ b → given a ≡ at_lane w lane b
lane_taken w lane h e = rw (lt-ltb lane (128 / w) h) (ap given e)

pub lane_refused : {A : Type 0} (w lane : ℕ) (a : Answer A) → 128 / w ≤ lane → refused 4 ≡ lane_first w lane a
lane_refused w lane a h = rw (le-ltb lane (128 / w) h)

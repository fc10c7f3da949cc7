-- One number from all lanes: whether one is zero, and which have their sign bit set.
-- Assumes nothing.
use mathlib.Core.Path.{◌≡◌, refl, sym, ap, ap₂, ◌∙◌}
use mathlib.Core.Bool.{Bool, true, false, cond, not, ◌&&◌}
use mathlib.Core.List.{List, [], ◌∷◌, map}
use Prim.Native.Nat.{ℕ, zero, suc, ◌+◌, ◌-◌, ◌*◌, ◌/◌, ◌^◌, ◌<◌, ◌≤◌}
use native.Mathlib.Nat.{add-zero, add_comm, one-mul, mul-zero, mul-pos, zero-lt-suc, zero-mod, zero-div, lt_of_lt_of_le, le_of_eq}
use native.Mathlib.Numerals.{add-one}
use native.Mathlib.Omega.{arith}
use borrow.Author.Tests.{eq-eqb, ne_eqb, eqb-true, eqb-false}
use lib.Arith.{le-zero}
use lib.Dec.{eqb, eqb-suc-zero, lit<}
use lib.Pow.{pow_mono, pow_pos}
use lib.ListN.{length, get_or, drop, length-drop, length-map, drop_of_length-le, replicate}
use lib.Seq.{drop-cons}
use lib.Signed.{non_neg}
use Rattle.standard.specs.Lanes.{digits, joined, lanes, zip, binary}
use Rattle.standard.specs.Integer.{signed, truth, ieq}
use Rattle.standard.specs.Vector.{no_zero, any_true, all_true, bitmask}
use Rattle.standard.proofs.Access.{two_lanes}
use Rattle.standard.proofs.Digits.{Below, length_digits, joined_lt}

-- the list from place i on, taken apart
pub next : (xs : List ℕ) (i : ℕ) → i < length xs → drop i xs ≡ get_or xs i 0 ∷ drop (i + 1) xs
next xs i h = rw add-one (drop-cons xs i 0 h)

-- the sign bit of a lane
abbrev pub sign_of : ℕ → ℕ → ℕ
sign_of w i = cond (non_neg (signed w i)) 0 1

-- a sign bit is at most one
sign_small : (b : Bool) {r : ℕ} → r ≡ cond b 0 1 → r < 2
sign_small true e = rw e (lit< tt)
sign_small false e = rw e (lit< tt)

signs_below : (w : ℕ) (xs : List ℕ) → Below 2 (map (sign_of w) xs)
signs_below w [] = tt
signs_below w (x ∷ xs) = (sign_small (non_neg (signed w x)) refl, signs_below w xs)

-- all_true, by a comparison of every lane with zero
zeros : (w n : ℕ) → digits w n 0 ≡ replicate n 0
zeros w zero = refl
zeros w (suc n) = ap₂ ◌∷◌ (zero-mod (2 ^ w)) (ap (digits w n) (zero-div (2 ^ w)) ∙ zeros w n)

scaled : (w r : ℕ) → eqb (0 + 2 ^ w * r) 0 ≡ eqb r 0
scaled w zero = eq-eqb (0 + 2 ^ w * 0) 0 (omega (arith, mul-zero (2 ^ w)))
scaled w (suc r) = ne_eqb (0 + 2 ^ w * suc r) 0 (λ e. absurd (omega (arith, mul-pos (pow_pos w) (zero-lt-suc r)))) ∙ sym (eqb-suc-zero r)

other : (any t : Bool) → ◌≡◌ {A = ℕ} (cond any 1 0) (cond t 0 1) → ◌≡◌ {A = ℕ} (cond (not any) 1 0) (cond t 1 0)
other true true e = absurd (omega arith)
other true false e = refl
other false true e = refl
other false false e = absurd (omega arith)

compared : (w : ℕ) → 1 < 2 ^ w → (xs : List ℕ) → cond (eqb (joined w (zip (ieq w) xs (replicate (length xs) 0))) 0) 1 0 ≡ no_zero xs
compared w h [] = refl
compared w h (x ∷ xs) = pick (eqb x 0) (compared w h xs)
  where
    rest : ℕ
    rest = joined w (zip (ieq w) xs (replicate (length xs) 0))

    pick : (t : Bool) → cond (eqb rest 0) 1 0 ≡ no_zero xs → cond (eqb (truth w t + 2 ^ w * rest) 0) 1 0 ≡ cond t 0 (no_zero xs)
    pick true e = rw (ne_eqb (2 ^ w - 1 + 2 ^ w * rest) 0 (λ z. absurd (omega (arith, h))))
    pick false e = ap (λ (t : Bool). cond t 1 0) (scaled w rest) ∙ e

pub all_true_is : (w : ℕ) → 1 < 2 ^ w → (x : ℕ) {z : ℕ} (any : Bool) → z ≡ binary w (ieq w) x 0 → cond any 1 0 ≡ any_true z → cond (not any) 1 0 ≡ all_true w x
unfolding binary any_true all_true
all_true_is w h x {z} any ez ea =
    other any (eqb z 0) ea
    ∙ ap (λ (n : ℕ). cond (eqb n 0) 1 0) (ez ∙ ap (λ (ys : List ℕ). joined w (zip (ieq w) (lanes w x) ys))
    (zeros w (128 / w) ∙ ap (λ (n : ℕ). replicate n 0) (sym (length_digits w (128 / w) x))))
    ∙ compared w h (lanes w x)

-- A loop over the lanes of a vector.
module _ (w x : ℕ) {xs : List ℕ} (ex : xs ≡ lanes w x) where
  count : length xs ≡ 128 / w
  count = ap length ex ∙ length_digits w (128 / w) x

  -- bitmask, from the top lane down: no lane yet, one lane more at the low end, and the end
  pub mask_start : 0 ≡ joined 1 (map (sign_of w) (drop (128 / w) xs))
  mask_start = ap (λ (ys : List ℕ). joined 1 (map (sign_of w) ys)) (sym (drop_of_length-le xs {i = 128 / w} (le_of_eq count)))

  pub mask_turn : (i : ℕ) {m r : ℕ} → 0 < i → i ≤ 128 / w → m ≡ joined 1 (map (sign_of w) (drop i xs)) → r ≡ sign_of w (get_or xs (i - 1) 0)
      → 2 * m + r ≡ joined 1 (map (sign_of w) (drop (i - 1) xs))
  mask_turn i p h em er =
      let back : i ≡ i - 1 + 1 = omega arith in
      let l : i - 1 < length xs = omega (arith, count) in
      ap₂ (λ (a b : ℕ). 2 * a + b) (em ∙ ap (λ (k : ℕ). joined 1 (map (sign_of w) (drop k xs))) back) er
      ∙ add_comm (2 * joined 1 (map (sign_of w) (drop (i - 1 + 1) xs))) (sign_of w (get_or xs (i - 1) 0))
      ∙ ap (λ (ys : List ℕ). joined 1 (map (sign_of w) ys)) (sym (next xs (i - 1) l))

  pub mask_fits : (i : ℕ) {m : ℕ} → 128 / w ≤ 16 → m ≡ joined 1 (map (sign_of w) (drop i xs)) → m < 2 ^ 16
  mask_fits i h e =
      rw e
      (lt_of_lt_of_le (joined_lt 1 (map (sign_of w) (drop i xs)) (signs_below w (drop i xs)))
      (pow_mono {j = 16} (rw (one-mul, length-map, length-drop, count) (omega arith))))

  pub mask_end : (i : ℕ) {m : ℕ} → i ≤ 0 → m ≡ joined 1 (map (sign_of w) (drop i xs)) → m ≡ bitmask w x
  unfolding bitmask
  mask_end i h e = e ∙ ap (λ (k : ℕ). joined 1 (map (sign_of w) (drop k xs))) (le-zero h) ∙ ap (λ (ys : List ℕ). joined 1 (map (sign_of w) ys)) ex

-- two lanes of 64 bits
module _ (a b : ℕ) (ha : a < 2 ^ 64) (hb : b < 2 ^ 64) where
  pub all_true_64 : cond (not (eqb a 0) && not (eqb b 0)) 1 0 ≡ all_true 64 (a + 2 ^ 64 * b)
  unfolding all_true
  all_true_64 = pick (eqb a 0) (eqb b 0) ∙ ap no_zero (sym (two_lanes a b ha hb))
    where
      pick : (s t : Bool) → ◌≡◌ {A = ℕ} (cond (not s && not t) 1 0) (cond s 0 (cond t 0 1))
      pick true t = refl
      pick false true = refl
      pick false false = refl

  pub bitmask_64 : {r s : ℕ} → r ≡ sign_of 64 a → s ≡ sign_of 64 b → r + 2 * s ≡ bitmask 64 (a + 2 ^ 64 * b)
  unfolding bitmask
  bitmask_64 er es =
      ap₂ (λ (m n : ℕ). m + 2 * n) er (es ∙ sym (add-zero _))
      ∙ ap (λ (xs : List ℕ). joined 1 (map (sign_of 64) xs)) (sym (two_lanes a b ha hb))

-- any_true, by the low half first
pub any_above : (a b : ℕ) → (a ≡ 0 → ⊥) → 1 ≡ any_true (a + 2 ^ 64 * b)
unfolding any_true
any_above a b ne = rw (ne_eqb (a + 2 ^ 64 * b) 0 (λ e. ne (omega arith)))

pub any_below : (a b : ℕ) → a ≡ 0 → cond (not (eqb b 0)) 1 0 ≡ any_true (a + 2 ^ 64 * b)
unfolding any_true
any_below a b e = pick (eqb b 0) refl
  where
    pick : (t : Bool) → eqb b 0 ≡ t → ◌≡◌ {A = ℕ} (cond (not t) 1 0) (cond (eqb (a + 2 ^ 64 * b) 0) 0 1)
    pick true t = rw (eq-eqb (a + 2 ^ 64 * b) 0 (let z = eqb-true b 0 t in omega arith))
    pick false t = rw (ne_eqb (a + 2 ^ 64 * b) 0 (λ h. eqb-false b 0 t (omega arith)))

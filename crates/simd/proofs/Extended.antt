-- Extending, extended products and narrowing of a vector's lanes.
-- Assumes nothing.
use mathlib.Core.Path.{◌≡◌, refl, sym, ap, ap₂, ◌∙◌, subst⁻¹}
use mathlib.Core.List.{List, [], ◌∷◌, ◌++◌, map}
use Prim.Native.Nat.{ℕ, zero, suc, ◌+◌, ◌-◌, ◌*◌, ◌/◌, ◌^◌, ◌<◌, ◌≤◌}
use native.Mathlib.Nat.{zero-sub, not-suc-le-zero, le_of_suc-le-suc, le_of_eq}
use native.Mathlib.Omega.{arith}
use lib.ListN.{length, take, drop, replicate}
use Rattle.std.proofs.lemmas.List.{append_assoc}
use Rattle.standard.specs.Lanes.{digits, joined, lanes, unary, binary, low_half, high_half}
use Rattle.standard.specs.Integer.{imul}
use Rattle.standard.specs.Vector.{extend, extmul, widen}
use Rattle.standard.proofs.Digits.{length_digits}
use Rattle.standard.proofs.Halves.{lanes_halves}
use Rattle.standard.proofs.Widths.{parts, products, widened, low_lanes}
use Rattle.simd.specs.declared.V128.{V128}
use Rattle.simd.specs.Halved.{IsHalved}
use Rattle.simd.specs.Number.{number}

-- the first places of what f makes of xs and of what stands after them
pub front : (f : ℕ → ℕ) (xs ys : List ℕ) (n : ℕ) → length xs ≤ n → take n (map f (xs ++ ys)) ≡ map f xs ++ take (n - length xs) (map f ys)
front f [] ys n h = ap (λ (k : ℕ). take k (map f ys)) (omega arith)
front f (x ∷ xs) ys zero h = absurd (not-suc-le-zero h)
front f (x ∷ xs) ys (suc n) h = ap (λ (r : List ℕ). f x ∷ r) (front f xs ys n (le_of_suc-le-suc h) ∙ ap (λ (k : ℕ). map f xs ++ take k (map f ys)) (omega arith))

front_alone : (f : ℕ → ℕ) (xs ys : List ℕ) → take (length xs) (map f (xs ++ ys)) ≡ map f xs
front_alone f [] ys = refl
front_alone f (x ∷ xs) ys = ap (λ (r : List ℕ). f x ∷ r) (front_alone f xs ys)

pub unary_is : (w : ℕ) (f : ℕ → ℕ) (x m : ℕ) {ps : List ℕ} → ps ≡ map f (lanes w x ++ replicate m 0) → joined w (take (128 / w) ps) ≡ unary w f x
unfolding unary
unary_is w f x m e = ap (joined w) (ap₂ take (sym (length_digits w (128 / w) x)) e ∙ front_alone f (lanes w x) (replicate m 0))

-- the lanes of a double width, made of the lanes of a vector whose high half is zeros, are those bits widened
pub widens : (w : ℕ) → IsHalved w → (sx : ℕ → ℕ → ℕ → ℕ) (bits m mw : ℕ) → bits < 2 ^ 64 → mw ≡ 2 * w → {ps : List ℕ}
    → ps ≡ map (sx w (2 * w)) (lanes w (bits + 2 ^ 64 * 0) ++ replicate m 0) → joined mw (take (128 / mw) ps) ≡ widen sx w bits
widens w (half, whole, count) sx bits m mw lt twice {ps} e =
    ap (λ (k : ℕ). joined k (take (128 / k) ps)) twice
    ∙ ap (joined (2 * w))
    (ap₂ take (count ∙ sym (length_digits w (64 / w) bits)) (e ∙ ap (λ (ds : List ℕ). map (sx w (2 * w)) (ds ++ replicate m 0)) (lanes_halves w (64 / w) half whole bits 0 lt))
    ∙ ap (λ (ds : List ℕ). take (length (digits w (64 / w) bits)) (map (sx w (2 * w)) ds)) (append_assoc (digits w (64 / w) bits) (digits w (64 / w) 0) (replicate m 0))
    ∙ front_alone (sx w (2 * w)) (digits w (64 / w) bits) (digits w (64 / w) 0 ++ replicate m 0))
    ∙ widened w sx bits refl

-- lanes of half the width, made of the lanes of a vector: they stand in the low half
pub narrows : (w : ℕ) → IsHalved w → (f : ℕ → ℕ) → ((a : ℕ) → f a < 2 ^ w) → (x lw m : ℕ) → lw ≡ 2 * w → (lo hi : ℕ) → lo < 2 ^ 64 → {ps : List ℕ}
    → lo + 2 ^ 64 * hi ≡ joined w (take (128 / w) ps) → ps ≡ map f (lanes lw x ++ replicate m 0) → lo ≡ joined w (map f (lanes lw x))
narrows w (half, whole, count) f lt x lw m twice lo hi h {ps} e ep =
    low_lanes w (64 / w) half f lt (lanes lw x) (take (128 / w - length (lanes lw x)) (map f (replicate m 0))) as_many lo hi h
    (e ∙ ap (joined w) (ap (take (128 / w)) ep ∙ front f (lanes lw x) (replicate m 0) (128 / w) within))
  where
    as_many : length (lanes lw x) ≡ 64 / w
    as_many = length_digits lw (128 / lw) x ∙ ap (λ (k : ℕ). 128 / k) twice ∙ count

    within : length (lanes lw x) ≤ 128 / w
    within = subst⁻¹ (λ (k : ℕ). k ≤ 128 / w) as_many (omega (arith, whole))

-- the products of extended lanes, of the low or of the high halves
module _ (w n : ℕ) (half : w * n ≡ 64) (whole : n + n ≡ 128 / w) (sx : ℕ → ℕ → ℕ → ℕ) (lt : (a : ℕ) → a < 2 ^ w → sx w (2 * w) a < 2 ^ (2 * w))
    (wide : 2 * w * (128 / (2 * w)) ≡ 128) (wider : n ≡ 128 / (2 * w)) (a b : V128) (ha : a.lo < 2 ^ 64) (hb : b.lo < 2 ^ 64) where
  pub extmul_low : {p q r : ℕ} → p ≡ extend low_half sx w (number a) → q ≡ extend low_half sx w (number b) → r ≡ binary (2 * w) (imul (2 * w)) p q
      → r ≡ extmul low_half sx w (number a) (number b)
  extmul_low ep eq er =
      er ∙ ap₂ (binary (2 * w) (imul (2 * w))) ep eq
      ∙ products w n sx lt wide wider low_half (number a) (number b) _ _ (parts w n half whole a.lo a.hi ha).0 (parts w n half whole b.lo b.hi hb).0

  pub extmul_high : {p q r : ℕ} → p ≡ extend high_half sx w (number a) → q ≡ extend high_half sx w (number b) → r ≡ binary (2 * w) (imul (2 * w)) p q
      → r ≡ extmul high_half sx w (number a) (number b)
  extmul_high ep eq er =
      er ∙ ap₂ (binary (2 * w) (imul (2 * w))) ep eq
      ∙ products w n sx lt wide wider high_half (number a) (number b) _ _ (parts w n half whole a.lo a.hi ha).1 (parts w n half whole b.lo b.hi hb).1

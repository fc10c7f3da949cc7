-- Lanes and the idle places after them, as lists. Assumes nothing.
use mathlib.Core.Path.{◌≡◌, refl, sym, ap, ap₂, ◌∙◌}
use mathlib.Core.List.{List, [], ◌∷◌, ◌++◌, map}
use Prim.Native.Nat.{ℕ, zero, suc, ◌+◌, ◌≤◌}
use native.Mathlib.Nat.{not-suc-le-zero, le_of_suc-le-suc}
use lib.ListN.{length, get_or, take, replicate, length-map, length-append, get_or-map}
use lib.Seq.{take_at}
use Rattle.standard.proofs.Halves.{elements, tail_elements, map_append}

-- the first elements one by one
pub first : (n : ℕ) (s : List ℕ) → n ≤ length s → elements s 0 n ≡ take n s
first zero s h = refl
first (suc n) [] h = absurd (not-suc-le-zero h)
first (suc n) (x ∷ s) h = ap (λ (r : List ℕ). x ∷ r) (tail_elements x s 0 n ∙ first n s (le_of_suc-le-suc h))

-- Four lanes with 20 idle places after them.
module _ (f : ℕ → ℕ) (a : List ℕ) where
  -- a function at every place, and then the lanes
  pub front : (idle : List ℕ) → length a ≡ 4 → take 4 (map f (a ++ idle)) ≡ map f a
  front idle e = ap (take 4) (map_append f a idle) ∙ take_at (map f a) (map f idle) 4 (length-map a f ∙ e)

  -- a place of what a function that keeps 0 made of the lanes
  pub mapped : f 0 ≡ 0 → {xs ys b : List ℕ} → xs ≡ a ++ replicate 20 0 → b ≡ map f a → ys ≡ b ++ replicate 20 0 → (i : ℕ) → get_or ys i 0 ≡ f (get_or xs i 0)
  mapped z {xs} ex eb ey i =
      ap (λ (l : List ℕ). get_or l i 0) (ey ∙ ap₂ ◌++◌ eb (idle 20) ∙ sym (map_append f a (replicate 20 0)) ∙ ap (map f) (sym ex))
      ∙ ap (get_or (map f xs) i) (sym z) ∙ get_or-map f xs i 0
    where
      idle : (n : ℕ) → replicate n 0 ≡ map f (replicate n 0)
      idle zero = refl
      idle (suc n) = ap₂ ◌∷◌ (sym z) (idle n)

pub places_are : (a : List ℕ) {xs : List ℕ} → length a ≡ 4 → xs ≡ a ++ replicate 20 0 → length xs ≡ 24
places_are a e ex = ap length ex ∙ length-append a (replicate 20 0) ∙ ap (λ (n : ℕ). n + 20) e

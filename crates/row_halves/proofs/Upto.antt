-- The rows while a loop `first[i] = f(first[i], second[i])` runs: the first i elements are written, and the others as they were. P holds of the two elements
-- and of what is written in the first one's place.
-- Assumes nothing.
use mathlib.Core.Path.{◌≡◌, refl, sym, ap, subst}
use Prim.Native.Nat.{ℕ, zero, suc, ◌<◌}
use native.Mathlib.Nat.{not-suc-le-zero, le_of_suc-le-suc, suc_inj, suc-ne-zero}
use mathlib.Core.List.{List, [], ◌∷◌}
use lib.ListN.{length, get_or, set}

module _ {A : Type 0} (P : A → A → A → Type 0) where
  -- the three rows are equally long, and P holds at each place
  abbrev pub Each : List A → List A → List A → Type 0
  Each [] [] [] = Unit {0}
  Each [] [] (z ∷ zs) = ⊥
  Each [] (y ∷ ys) zs = ⊥
  Each (x ∷ xs) [] zs = ⊥
  Each (x ∷ xs) (y ∷ ys) [] = ⊥
  Each (x ∷ xs) (y ∷ ys) (z ∷ zs) = P x y z × Each xs ys zs

  abbrev pub Upto : ℕ → List A → List A → List A → Type 0
  Upto zero xs ys zs = zs ≡ xs
  Upto (suc i) (x ∷ xs) (y ∷ ys) (z ∷ zs) = P x y z × Upto i xs ys zs
  Upto (suc i) [] ys zs = ⊥
  Upto (suc i) (x ∷ xs) [] zs = ⊥
  Upto (suc i) (x ∷ xs) (y ∷ ys) [] = ⊥

  -- the row is as long as it was
  pub long : (i : ℕ) (xs ys zs : List A) → Upto i xs ys zs → length zs ≡ length xs
  long zero xs ys zs u = ap length u
  long (suc i) (x ∷ xs) (y ∷ ys) (z ∷ zs) u = ap suc (long i xs ys zs u.1)
  long (suc i) [] ys zs u = absurd u
  long (suc i) (x ∷ xs) [] zs u = absurd u
  long (suc i) (x ∷ xs) (y ∷ ys) [] u = absurd u

  -- element i is as it was
  pub same : (i : ℕ) (xs ys zs : List A) (d : A) → Upto i xs ys zs → get_or zs i d ≡ get_or xs i d
  same zero xs ys zs d u = ap (λ (l : List A). get_or l 0 d) u
  same (suc i) (x ∷ xs) (y ∷ ys) (z ∷ zs) d u = same i xs ys zs d u.1
  same (suc i) [] ys zs d u = absurd u
  same (suc i) (x ∷ xs) [] zs d u = absurd u
  same (suc i) (x ∷ xs) (y ∷ ys) [] d u = absurd u

  -- one more is written
  pub next : (i : ℕ) (xs ys zs : List A) (d w : A) → i < length xs → i < length ys → Upto i xs ys zs → P (get_or xs i d) (get_or ys i d) w
      → Upto (suc i) xs ys (set zs i w)
  next zero [] ys zs d w lx ly u p = absurd (not-suc-le-zero lx)
  next zero (x ∷ xs) [] zs d w lx ly u p = absurd (not-suc-le-zero ly)
  next zero (x ∷ xs) (y ∷ ys) zs d w lx ly u p = subst (λ (l : List A). Upto 1 (x ∷ xs) (y ∷ ys) (set l 0 w)) (sym u) (p, refl)
  next (suc i) (x ∷ xs) (y ∷ ys) (z ∷ zs) d w lx ly u p = (u.0, next i xs ys zs d w (le_of_suc-le-suc lx) (le_of_suc-le-suc ly) u.1 p)
  next (suc i) [] ys zs d w lx ly u p = absurd u
  next (suc i) (x ∷ xs) [] zs d w lx ly u p = absurd u
  next (suc i) (x ∷ xs) (y ∷ ys) [] d w lx ly u p = absurd u

  -- all are written where i is the length
  pub full : (xs ys zs : List A) → length xs ≡ length ys → Upto (length xs) xs ys zs → Each xs ys zs
  full [] [] zs e u = subst (λ (l : List A). Each [] [] l) (sym u) tt
  full [] (y ∷ ys) zs e u = absurd (suc-ne-zero (length ys) (sym e))
  full (x ∷ xs) [] zs e u = absurd (suc-ne-zero (length xs) e)
  full (x ∷ xs) (y ∷ ys) (z ∷ zs) e u = (u.0, full xs ys zs (suc_inj e) u.1)
  full (x ∷ xs) (y ∷ ys) [] e u = absurd u

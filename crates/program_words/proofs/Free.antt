-- Texts in which nothing stops, and what may be added to a line without changing its statement or its words. Assumes nothing.
use mathlib.Core.Path.{◌≡◌, refl, ap}
use mathlib.Core.Bool.{Bool, true, false, cond, false≢true}
use mathlib.Core.List.{List, [], ◌∷◌, ◌++◌}
use Prim.Native.Nat.{ℕ}
use Rattle.program_words.specs.Cut.{before, pieces, onto}

abbrev pub free : (ℕ → Bool) → List ℕ → Bool
free stop [] = true
free stop (c ∷ cs) = cond (stop c) false (free stop cs)

pub passes : (b r : Bool) → cond b false r ≡ true → (b ≡ false) × (r ≡ true)
passes true r e = absurd (false≢true e)
passes false r e = (refl, e)

module _ (stop : ℕ → Bool) where
  pub free_append : (xs ys : List ℕ) → free stop xs ≡ true → free stop ys ≡ true → free stop (xs ++ ys) ≡ true
  free_append [] ys e f = f
  free_append (x ∷ xs) ys e f = let p = passes (stop x) (free stop xs) e in rw p.0 (free_append xs ys p.1 f)

  pub free_before : (xs : List ℕ) → free stop xs ≡ true → before stop xs ≡ xs
  unfolding before
  free_before [] e = refl
  free_before (x ∷ xs) e = let p = passes (stop x) (free stop xs) e in rw p.0 (ap (λ (r : List ℕ). x ∷ r) (free_before xs p.1))

  pub free_piece : (w : List ℕ) (c : ℕ) (cs : List ℕ) → free stop w ≡ true → stop c ≡ true → pieces stop (w ++ (c ∷ cs)) ≡ w ∷ pieces stop cs
  unfolding pieces
  free_piece [] c cs e h = rw h
  free_piece (x ∷ xs) c cs e h = let p = passes (stop x) (free stop xs) e in rw p.0 (ap (onto x) (free_piece xs c cs p.1 h))

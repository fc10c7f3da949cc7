-- The pieces of a text, one after the other, as a scan finds them; and texts that are the same. Assumes nothing.
use mathlib.Core.Path.{◌≡◌, refl, ap, ◌∙◌}
use mathlib.Core.Bool.{Bool, true, false, cond, false≢true}
use mathlib.Core.List.{List, [], ◌∷◌}
use Prim.Native.Nat.{ℕ, ◌+◌, ◌-◌, ◌<◌, ◌≤◌}
use native.Mathlib.Numerals.{add-one}
use lib.Dec.{eqb}
use borrow.Author.Tests.{eqb-true, eq-eqb}
use lib.ListN.{length, take, drop, drop_of_length-le}
use lib.Seq.{drop-cons}
use Rattle.program_words.specs.Cut.{before, onward, pieces, onto, same}
use Rattle.program_words.specs.Stops.{Scanned}

-- the pieces after the first, by the text from the first character on that stops
abbrev pub others : (ℕ → Bool) → List ℕ → List (List ℕ)
others stop [] = []
others stop (c ∷ cs) = pieces stop cs

cut : (stop : ℕ → Bool) (text : List ℕ) → pieces stop text ≡ before stop text ∷ others stop (onward stop text)
unfolding pieces before onward
cut stop [] = refl
cut stop (c ∷ cs) = by (stop c) (cut stop cs)
  where
    by : (b : Bool) → pieces stop cs ≡ before stop cs ∷ others stop (onward stop cs)
        → cond b ([] ∷ pieces stop cs) (onto c (pieces stop cs)) ≡ cond b [] (c ∷ before stop cs) ∷ others stop (cond b (c ∷ cs) (onward stop cs))
    by true e = refl
    by false e = ap (onto c) e

-- From a scan: the piece that it passed, and then the others.
module _ (stop : ℕ → Bool) (text : List ℕ) (at end : ℕ) (s : Scanned stop text at end) where
  pub first_piece : pieces stop (drop at text) ≡ take (end - at) (drop at text) ∷ others stop (drop end text)
  first_piece = cut stop (drop at text) ∙ rw (s.passed, s.left)

  pub last_piece : length text ≤ end → pieces stop (drop at text) ≡ take (end - at) (drop at text) ∷ []
  last_piece h = first_piece ∙ rw (drop_of_length-le text h)

  pub next_piece : end < length text → pieces stop (drop at text) ≡ take (end - at) (drop at text) ∷ pieces stop (drop (end + 1) text)
  next_piece h = first_piece ∙ rw (drop-cons text end 0 h, add-one end)

pub same_true : (xs ys : List ℕ) → same xs ys ≡ true → xs ≡ ys
same_true [] [] e = refl
same_true [] (y ∷ ys) e = cc
same_true (x ∷ xs) [] e = cc
same_true (x ∷ xs) (y ∷ ys) e = by (eqb x y) (eqb-true x y) (same_true xs ys) e
  where
    by : (b : Bool) → (b ≡ true → x ≡ y) → (same xs ys ≡ true → xs ≡ ys) → cond b (same xs ys) false ≡ true → (x ∷ xs) ≡ (y ∷ ys)
    by true h r k = let p = h refl in let q = r k in cc
    by false h r k = cc

pub same_refl : (xs : List ℕ) → same xs xs ≡ true
same_refl [] = refl
same_refl (x ∷ xs) = rw (eq-eqb x x refl) (same_refl xs)

pub is_false : (b : Bool) → (b ≡ true → ⊥) → b ≡ false
is_false true h = absurd (h refl)
is_false false h = refl

-- what the code's comparison says
pub sames : (b : Bool) (xs ys : List ℕ) → ((b ≡ true → xs ≡ ys) × (xs ≡ ys → b ≡ true)) → same xs ys ≡ b
sames true xs ys e = rw (e.0 refl) (same_refl ys)
sames false xs ys e = is_false (same xs ys) (λ t. false≢true (e.1 (same_true xs ys t)))

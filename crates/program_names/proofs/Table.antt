-- The table of names both ways: the number of an operation's name is the operation's, and a name is one plain word. Assumes nothing.
use mathlib.Core.Path.{◌≡◌, refl}
use mathlib.Core.Bool.{Bool, true, false, not, ◌&&◌, ◌||◌}
use mathlib.Core.List.{List, [], ◌∷◌, map}
use Prim.Native.Nat.{ℕ, zero, suc, ◌+◌, ◌<◌, ◌≤◌}
use native.Mathlib.Nat.{add-zero, zero-add, add-suc, suc-add, le_of_suc-le-suc, not-suc-le-zero}
use borrow.Author.Tests.{eqb-true, leb-true, ltb-true, ltb-false, not-true}
use lib.Dec.{eqb, leb, ltb}
use lib.ListN.{length, get_or, get_or-eq_default}
use Rattle.program_digits.specs.Codes.{codes}
use Rattle.program_words.specs.Cut.{newline, blank, same}
use Rattle.program_words.proofs.Free.{free}
use Rattle.program_table.specs.Place.{place}
use Rattle.program_names.specs.Names.{names, name, number}

-- a test that passes at each text of a list and its place, counted from i
abbrev every : (ℕ → List ℕ → Bool) → ℕ → List (List ℕ) → Bool
every f i [] = true
every f i (x ∷ xs) = f i x && every f (suc i) xs

pub both_left : (a b : Bool) → (a && b) ≡ true → a ≡ true
both_left true b e = refl
both_left false b e = e

pub both_right : (a b : Bool) → (a && b) ≡ true → b ≡ true
both_right true b e = e
both_right false b e = cc

from : (f : ℕ → List ℕ → Bool) (xs : List (List ℕ)) (i : ℕ) → every f i xs ≡ true → (k : ℕ) → k < length xs → f (i + k) (get_or xs k []) ≡ true
from f [] i t k h = absurd (not-suc-le-zero h)
from f (x ∷ xs) i t zero h = rw (add-zero i) (both_left (f i x) _ t)
from f (x ∷ xs) i t (suc k) h = rw (add-suc i k, ← suc-add i k) (from f xs (suc i) (both_right (f i x) _ t) k (le_of_suc-le-suc h))

at : (f : ℕ → List ℕ → Bool) (xs : List (List ℕ)) → every f 0 xs ≡ true → (k : ℕ) → k < length xs → f k (get_or xs k []) ≡ true
at f xs t k h = rw (zero-add k) at (from f xs 0 t k h)

-- a character that ends a word or a line, or with which a comment may begin
abbrev pub odd : ℕ → Bool
odd c = newline c || (blank c || (eqb c 35 || eqb c 59))

-- a text is of at most 35 plain characters; it is empty, or found at its own place and not the word `calculator_step`
abbrev own : ℕ → List ℕ → Bool
own k [] = true
own k (c ∷ cs) = eqb (place (map codes names) (c ∷ cs)) k && not (same (c ∷ cs) (codes "step"))

abbrev right : ℕ → List ℕ → Bool
right k w = leb (length w) 35 && (free odd w && own k w)

tested : every right 0 (map codes names) ≡ true
unfolding names codes place
tested = refl

counted : (n : ℕ) → n < 276 → n < length (map codes names)
unfolding names
counted n h = h

no_name : (n : ℕ) → 276 ≤ n → name n ≡ []
unfolding name names
no_name n h = get_or-eq_default (map codes names) [] h

named : (n : ℕ) → n < 276 → right n (name n) ≡ true
unfolding name
named n h = at right (map codes names) tested n (counted n h)

passed : (n : ℕ) → right n (name n) ≡ true
passed n = by (ltb n 276) refl
  where
    by : (b : Bool) → ltb n 276 ≡ b → right n (name n) ≡ true
    by true e = named n (ltb-true n 276 e)
    by false e = rw (no_name n (ltb-false n 276 e))

pub name_length : (n : ℕ) → length (name n) ≤ 35
name_length n = leb-true (length (name n)) 35 (both_left (leb (length (name n)) 35) _ (passed n))

pub name_free : (n : ℕ) → free odd (name n) ≡ true
name_free n = both_left (free odd (name n)) _ (both_right (leb (length (name n)) 35) _ (passed n))

owned : (n : ℕ) → own n (name n) ≡ true
owned n = both_right (free odd (name n)) _ (both_right (leb (length (name n)) 35) _ (passed n))

-- of a name that is not empty
module _ (n : ℕ) (some : 0 < length (name n)) where
  said : (w : List ℕ) → own n w ≡ true → 0 < length w → (place (map codes names) w ≡ n) × (same w (codes "step") ≡ false)
  said [] e h = absurd (not-suc-le-zero h)
  said (c ∷ cs) e h = (
    eqb-true (place (map codes names) (c ∷ cs)) n (both_left (eqb (place (map codes names) (c ∷ cs)) n) _ e),
    not-true _ (both_right (eqb (place (map codes names) (c ∷ cs)) n) _ e),
  )

  pub number_of_name : number (name n) ≡ n
  unfolding number
  number_of_name = (said (name n) (owned n) some).0

  pub name_not_step : same (name n) (codes "step") ≡ false
  name_not_step = (said (name n) (owned n) some).1

  pub name_below : n < 276
  name_below = by (ltb n 276) refl
    where
      by : (b : Bool) → ltb n 276 ≡ b → n < 276
      by true e = ltb-true n 276 e
      by false e = absurd (not-suc-le-zero (rw (no_name n (ltb-false n 276 e)) at some))

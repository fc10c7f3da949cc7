-- Scanning, one character at a time, and what the place that is found says of the text. Assumes nothing.
use mathlib.Core.Path.{◌≡◌, refl, sym, ap, ◌∙◌}
use mathlib.Core.Bool.{Bool, true, false, cond}
use mathlib.Core.List.{List, [], ◌∷◌}
use Prim.Native.Nat.{ℕ, suc, ◌+◌, ◌-◌, ◌<◌, ◌≤◌}
use native.Mathlib.Nat.{add-zero}
use native.Mathlib.Numerals.{add-one}
use native.Mathlib.Omega.{arith}
use lib.ListN.{length, get_or, take, drop, drop_of_length-le, length-drop}
use lib.Seq.{drop-cons, drop-drop}
use Rattle.program_words.specs.Cut.{before, onward, comment, statement}
use Rattle.program_words.specs.Stops.{Scanned}

-- what stands before is a part of the text, and what follows is the rest
module _ (stop : ℕ → Bool) where
  before_short : (cs : List ℕ) → length (before stop cs) ≤ length cs
  unfolding before
  before_short [] = omega arith
  before_short (c ∷ cs) = by (stop c) (before_short cs)
    where
      by : (b : Bool) → length (before stop cs) ≤ length cs → length (cond b [] (c ∷ before stop cs)) ≤ suc (length cs)
      by true h = omega arith
      by false h = omega arith

  before_is : (cs : List ℕ) → take (length (before stop cs)) cs ≡ before stop cs
  unfolding before
  before_is [] = refl
  before_is (c ∷ cs) = by (stop c) (before_is cs)
    where
      by : (b : Bool) → take (length (before stop cs)) cs ≡ before stop cs
          → take (length (cond b [] (c ∷ before stop cs))) (c ∷ cs) ≡ cond b [] (c ∷ before stop cs)
      by true e = refl
      by false e = ap (λ (r : List ℕ). c ∷ r) e

  onward_is : (cs : List ℕ) → drop (length (before stop cs)) cs ≡ onward stop cs
  unfolding before onward
  onward_is [] = refl
  onward_is (c ∷ cs) = by (stop c) (onward_is cs)
    where
      by : (b : Bool) → drop (length (before stop cs)) cs ≡ onward stop cs
          → drop (length (cond b [] (c ∷ before stop cs))) (c ∷ cs) ≡ cond b (c ∷ cs) (onward stop cs)
      by true e = refl
      by false e = e

  pub scanned : (text : List ℕ) (from end : ℕ) → from ≤ length text → end ≡ from + length (before stop (drop from text)) → Scanned stop text from end
  scanned text from end h e =
      record {
        low = omega arith;
        high = omega (arith, before_short (drop from text), length-drop from text);
        passed = rw far (before_is (drop from text));
        left = rw e (sym (drop-drop (length (before stop (drop from text))) from text) ∙ onward_is (drop from text));
      }
    where
      far : end - from ≡ length (before stop (drop from text))
      far = omega arith

  -- a place at which a character stops, or not, or the text ends
  module _ (text : List ℕ) (i : ℕ) where
    pub at_end : length text ≤ i → i ≡ i + length (before stop (drop i text))
    unfolding before
    at_end h = rw (drop_of_length-le text h) (sym (add-zero i))

    pub at_stop : i < length text → stop (get_or text i 0) ≡ true → i ≡ i + length (before stop (drop i text))
    unfolding before
    at_stop h e = rw (drop-cons text i 0 h, e) (sym (add-zero i))

    pub at_other : i < length text → stop (get_or text i 0) ≡ false
        → i + length (before stop (drop i text)) ≡ i + 1 + length (before stop (drop (i + 1) text))
    unfolding before
    at_other h e = rw (drop-cons text i 0 h, e, add-one i) (omega arith)

-- the same of a statement, which ends where a comment begins
pub statement_short : (cs : List ℕ) → length (statement cs) ≤ length cs
unfolding statement
statement_short [] = omega arith
statement_short (c ∷ cs) = by (comment (c ∷ cs)) (statement_short cs)
  where
    by : (b : Bool) → length (statement cs) ≤ length cs → length (cond b [] (c ∷ statement cs)) ≤ suc (length cs)
    by true h = omega arith
    by false h = omega arith

pub statement_is : (cs : List ℕ) → take (length (statement cs)) cs ≡ statement cs
unfolding statement
statement_is [] = refl
statement_is (c ∷ cs) = by (comment (c ∷ cs)) (statement_is cs)
  where
    by : (b : Bool) → take (length (statement cs)) cs ≡ statement cs
        → take (length (cond b [] (c ∷ statement cs))) (c ∷ cs) ≡ cond b [] (c ∷ statement cs)
    by true e = refl
    by false e = ap (λ (r : List ℕ). c ∷ r) e

module _ (line : List ℕ) (i : ℕ) where
  pub ends : length line ≤ i → i ≡ i + length (statement (drop i line))
  unfolding statement
  ends h = rw (drop_of_length-le line h) (sym (add-zero i))

  module _ (h : i < length line) where
    pub opens_here : comment (drop i line) ≡ true → i ≡ i + length (statement (drop i line))
    unfolding statement
    opens_here e = rw (drop-cons line i 0 h, rw (drop-cons line i 0 h) at e) (sym (add-zero i))

    pub goes_on : comment (drop i line) ≡ false → i + length (statement (drop i line)) ≡ i + 1 + length (statement (drop (i + 1) line))
    unfolding statement
    goes_on e = rw (drop-cons line i 0 h, rw (drop-cons line i 0 h) at e, add-one i) (omega arith)

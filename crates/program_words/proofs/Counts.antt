-- How many lines a text has, as std counts them. Assumes nothing.
use mathlib.Core.Path.{◌≡◌, refl, ◌∙◌}
use mathlib.Core.Bool.{Bool, true, false, cond}
use mathlib.Core.List.{List, [], ◌∷◌}
use Prim.Native.Nat.{ℕ, ◌+◌, ◌-◌}
use native.Mathlib.Omega.{arith}
use lib.ListN.{length, take, drop, length-drop}
use lib.Seq.{take_all}
use Rattle.std.specs.List.{count_by}
use Rattle.std.proofs.lemmas.List.Recursion.{is_count_by}
use Rattle.program_words.specs.Cut.{pieces, onto}

module _ (stop : ℕ → Bool) where
  length_onto : (c : ℕ) (ps : List (List ℕ)) (n : ℕ) → length ps ≡ 1 + n → length (onto c ps) ≡ 1 + n
  length_onto c [] n e = absurd (omega arith)
  length_onto c (p ∷ ps) n e = e

  some_piece : (cs : List ℕ) → length (pieces stop cs) ≡ 1 + (length (pieces stop cs) - 1)
  unfolding pieces
  some_piece [] = refl
  some_piece (c ∷ cs) = by (stop c) (some_piece cs)
    where
      by : (b : Bool) → length (pieces stop cs) ≡ 1 + (length (pieces stop cs) - 1)
          → length (cond b ([] ∷ pieces stop cs) (onto c (pieces stop cs))) ≡ 1 + (length (cond b ([] ∷ pieces stop cs) (onto c (pieces stop cs))) - 1)
      by true e = omega arith
      by false e = omega (arith, length_onto c (pieces stop cs) _ e)

  pub length_pieces : (cs : List ℕ) → length (pieces stop cs) ≡ 1 + count_by stop cs
  unfolding pieces
  length_pieces cs = some_piece cs ∙ rw (is_count_by (λ xs. length (pieces stop xs) - 1) stop refl (λ x xs. by x xs (stop x)) cs)
    where
      by : (x : ℕ) (xs : List ℕ) (b : Bool)
          → length (cond b ([] ∷ pieces stop xs) (onto x (pieces stop xs))) - 1 ≡ cond b (1 + (length (pieces stop xs) - 1)) (length (pieces stop xs) - 1)
      by x xs true = omega (arith, some_piece xs)
      by x xs false = omega (arith, length_onto x (pieces stop xs) _ (some_piece xs))

-- what the code writes as `&line[i..]`
pub tail_is : (line : List ℕ) (i : ℕ) → take (length line - i) (drop i line) ≡ drop i line
tail_is line i = take_all (length line - i) (drop i line) (omega (arith, length-drop i line))

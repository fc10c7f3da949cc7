-- What of a line is read: its statement, with one space for each run of blanks, and none at the end.
use Rattle.std.specs.Prelude.{ℕ, cond, List, [], ◌∷◌, map, eqb}
use Rattle.program_words.specs.Cut.{newline, blank, statement, pieces}

-- a blank before this
abbrev pub spaced : List ℕ → List ℕ
spaced [] = []
spaced (d ∷ ds) = cond (eqb d 32) (d ∷ ds) (32 ∷ d ∷ ds)

unfoldable pub tidy : List ℕ → List ℕ
tidy [] = []
tidy (c ∷ cs) = cond (blank c) (spaced (tidy cs)) (c ∷ tidy cs)

-- of each line of a text
abbrev pub read_of : List ℕ → List (List ℕ)
read_of text = map (λ l. tidy (statement l)) (pieces newline text)

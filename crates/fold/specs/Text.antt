-- What the program `fold` reads and writes, as lists of bytes: a chain is its links, "17 bytes a link".
use Rattle.std.specs.Prelude.{ℕ, zero, suc, ◌/◌, cond, List, [], ◌∷◌, ltb, take, drop, replicate}
use Rattle.chain.specs.Definition.{refusal, folded, left}
use Rattle.program_reports.specs.Lines.{fold}

-- The first n links of the bytes.
unfoldable pub links : ℕ → List ℕ → List (List ℕ)
links zero bytes = []
links (suc n) bytes = take 17 bytes ∷ links n (drop 17 bytes)

-- How many links so many bytes are. "18 more than 16 links": one byte above sixteen links is a seventeenth, and no more is read.
abbrev pub links_in : ℕ → ℕ
links_in n = cond (ltb n 273) (n / 17) 17

-- what the program writes of a chain: the indices of the one shuffle that does the same, or the number of the refusal
unfoldable pub text : List (List ℕ) → List ℕ
text chain = fold (refusal chain) (left (refusal chain) (folded chain) (replicate 16 0))

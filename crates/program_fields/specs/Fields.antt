-- A field of a step is a byte. A line has it as a register, a lane, a mark, or two hex digits.
use Rattle.std.specs.Prelude.{ℕ, ◌+◌, ◌*◌, cond, ◌&&◌, List, [], ◌∷◌, eqb, ltb, leb}
use Rattle.program_arguments.specs.Arguments.{Numeral, number, none, digit, decimal}
use Rattle.program_words.specs.Cut.{word, after}

-- "sources a, b, c as `r0` to `r15`, a lane in decimal, sixteen bytes in hex"; "`packed N`, the mark's byte"
pub data Field : Type 0 where
  register lane mark byte : Field

-- The value of a field and the characters after it; or that none is there.
pub data Found : Type 0 where
  found : ℕ → List ℕ → Found
  nothing : Found

-- a number from `low` to `high`: digits alone, at least one
abbrev pub between : ℕ → ℕ → List ℕ → Numeral → Found
between low high rest (number n) = cond (leb low n && leb n high) (found n rest) nothing
between low high rest none = nothing

abbrev pub number_in : ℕ → ℕ → List ℕ → Found
number_in low high cs = between low high (after cs) (decimal (word cs))

-- `r` and its number
abbrev pub as_register : List ℕ → List ℕ → Found
as_register rest [] = nothing
as_register rest (c ∷ cs) = cond (eqb c 114) (between 0 15 rest (decimal cs)) nothing

-- two hex digits, of either case; what follows may stand beside them
abbrev pub as_byte : List ℕ → Found
as_byte [] = nothing
as_byte (a ∷ []) = nothing
as_byte (a ∷ b ∷ cs) = cond (ltb (digit a) 16) (cond (ltb (digit b) 16) (found (16 * digit a + digit b) cs) nothing) nothing

-- The field that stands first. A step without a mark has none on its line, so a mark is 1 or more.
unfoldable pub find : Field → List ℕ → Found
find register cs = as_register (after cs) (word cs)
find lane cs = number_in 0 255 cs
find mark cs = number_in 1 255 cs
find byte cs = as_byte cs

-- A record of a field recording (document 02, order 8) as text, in ASCII codes: its number, the step, what the step left, and where that is not what the
-- definition gives, what it gives.
use Rattle.std.specs.Prelude.{ℕ, cond, ◌&&◌, List, [], ◌++◌, eqb, length, take, drop}
use Rattle.recording_fields.specs.Definition.{same}
use Rattle.program_digits.specs.Codes.{codes}
use Rattle.program_digits.specs.Lines.{named}
use Rattle.program_step.specs.Shown.{shown}
use Rattle.program_outcome.specs.Outcome.{left_line}

-- the record of a number, beside the one that the definition gives
abbrev pub difference : List ℕ → List ℕ → List ℕ
difference r d = cond (same (drop 32 r) (drop 32 d)) [] (codes "  the definition gives\n" ++ left_line d)

abbrev pub head : ℕ → List ℕ → List ℕ
head n r = named "record " n ++ (codes ": " ++ (shown (take 32 r) ++ codes "\n"))

-- a record is 64 bytes
unfoldable pub record_text : ℕ → List ℕ → List ℕ → List ℕ
record_text n r d = cond (eqb (length r) 64 && eqb (length d) 64) (head n r ++ (left_line r ++ difference r d)) []

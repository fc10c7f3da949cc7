-- The line that is written for a step.
use Rattle.std.specs.Prelude.{ℕ, zero, suc, ◌%◌, Bool, false, cond, List, [], ◌++◌, eqb, get_or}
use Rattle.calculator_rules.specs.Definition.{operation}
use Rattle.program_digits.specs.Codes.{codes}
use Rattle.program_digits.specs.Digits.{decimal, hex}
use Rattle.program_words.specs.Cut.{same}
use Rattle.program_names.specs.Names.{name}
use Rattle.program_fields.specs.Fields.{Field, register, lane, mark as a-mark, byte}
use Rattle.program_forms.specs.Forms.{Form, form}
use Rattle.program_line.specs.Line.{Line, empty, step, refused, line}

-- a field of a place of the step: bytes in hex stand in groups of four
unfoldable pub field : Field → ℕ → ℕ → List ℕ
unfolding codes
field register place b = codes " r" ++ decimal b
field lane place b = codes " " ++ decimal b
field a-mark place b = codes " " ++ decimal b
field byte place b = cond (eqb (place % 4) 0) (codes " ") [] ++ hex 2 b

-- so many fields of a kind, from a place on; a byte past the step's end is 0
unfoldable pub fields : Field → ℕ → ℕ → List ℕ → List ℕ
fields f zero place s = []
fields f (suc n) place s = field f place (get_or s place 0) ++ fields f n (suc place) s

-- nothing for 0, `packed_half` for 1, `packed_half` and the number for any other
unfoldable pub mark : ℕ → List ℕ
unfolding codes
mark m = cond (eqb m 0) [] (codes " packed" ++ cond (eqb m 1) [] (field a-mark 7 m))

-- the operation's name, what it takes, and the mark
unfoldable pub of_form : Form → List ℕ → List ℕ
of_form f s = fields register f.registers f.first s ++ (fields lane f.lanes 6 s ++ fields byte f.bytes 16 s)

unfoldable pub plain : List ℕ → List ℕ
plain s = name (operation s) ++ (of_form (form (operation s)) s ++ mark (get_or s 7 0))

-- all 32 bytes
unfoldable pub whole : List ℕ → List ℕ
unfolding codes
whole s = codes "step" ++ fields byte 32 0 s

-- A step is written plainly where that says all of it, and else whole.
abbrev pub says : Line → List ℕ → Bool
says empty s = false
says (step t) s = same t s
says (refused n) s = false

unfoldable pub shown : List ℕ → List ℕ
shown s = cond (says (line (plain s)) s) (plain s) (whole s)

-- Worked examples, computed from the definitions. Assumes nothing.
use mathlib.Core.Path.{◌≡◌, refl}
use mathlib.Core.List.{List, ◌∷◌}
use Prim.Native.Nat.{ℕ}
use lib.ListN.{replicate}
use Rattle.standard.specs.Instruction.{table, instruction}
use Rattle.program_digits.specs.Codes.{codes}
use Rattle.program_digits.specs.Digits.{digits, places, decimal}
use Rattle.program_words.specs.Cut.{before, onward, statement, pieces}
use Rattle.program_table.specs.Place.{place}
use Rattle.program_names.specs.Names.{names, name, number}
use Rattle.program_fields.specs.Fields.{find}
use Rattle.program_forms.specs.Forms.{form}
use Rattle.program_line.specs.Line.{step, refused, take_field, take_fields, take_form, take_packed, named, stated, line}
use Rattle.program_step.specs.Shown.{field, fields, mark, of_form, plain, shown}
use Rattle.program_assemble.specs.Text.{wrong_line, of_lines, assembled}

-- v128.xor r3 r1 r2, number 81
xor : List ℕ
xor = 81 ∷ 0 ∷ 3 ∷ 1 ∷ 2 ∷ replicate 27 0

line_read : line (codes "v128.xor r3 r1 r2   ;; which bits differ") ≡ step xor
unfolding instruction table xor codes line statement onward before stated named number names place form take_form take_fields take_field find take_packed
line_read = refl

line_written : shown xor ≡ codes "v128.xor r3 r1 r2"
unfolding instruction table xor codes shown plain name names of_form fields field mark decimal digits places line statement onward before stated named number
    place form take_form take_fields take_field find take_packed
line_written = refl

register_16 : line (codes "v128.not r16 r1") ≡ refused 2
unfolding instruction table codes line statement onward before stated named number names place form take_form take_fields take_field find take_packed
register_16 = refl

third_line : assembled (codes "# one\n\ni8x16.plus r1 r2 r3\n") ≡ wrong_line 3 1
unfolding codes assembled of_lines pieces line statement onward before stated named number names place
third_line = refl

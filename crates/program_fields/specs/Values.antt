-- What a field and a value of the code stand for.
use Rattle.std.specs.Prelude.{ℕ, ◌≤◌, ◌≡◌, Option, Some, None, List, length, drop}
use Rattle.program_fields.specs.Fields as text
use Rattle.program_fields.specs.declared.Field.{Field}

abbrev pub field_of : Field → text.Field
field_of Field.Register = text.register
field_of Field.Lane = text.lane
field_of Field.Mark = text.mark
field_of Field.Byte = text.byte

abbrev pub found_of : List ℕ → Option (ℕ × ℕ) → text.Found
found_of line (Some (n, next)) = text.found n (drop next line)
found_of line None = text.nothing

-- the place after a field lies in the line
abbrev pub inside : List ℕ → Option (ℕ × ℕ) → Type 0
inside line (Some (n, next)) = next ≤ length line
inside line None = Unit

pub record Finds (line : List ℕ) (f : text.Found) (r : Option (ℕ × ℕ)) : Type 0 where
  pub inside : inside line r
  pub is : found_of line r ≡ f

-- A line of the text of a step list, as a list of ASCII codes, and the step that it stands for.
use Rattle.std.specs.Prelude.{ℕ, zero, suc, ◌/◌, ◌%◌, Bool, false, cond, ◌&&◌, List, [], ◌∷◌, ltb, set, replicate}
use Rattle.program_digits.specs.Codes.{codes}
use Rattle.program_words.specs.Cut.{blank, skip, word, after, statement, same}
use Rattle.program_names.specs.Names as names
use Rattle.program_fields.specs.Fields.{Field, register, lane, mark, byte, Found, found, nothing, find}
use Rattle.program_forms.specs.Forms.{Form, form}

-- A line stands for nothing, for a step, or for none, for a reason.
pub data Line : Type 0 where
  empty : Line
  step : List ℕ → Line
  refused : ℕ → Line

-- The reasons: "no such name ..; register, lane or byte expected; too much on the line".
abbrev pub no_such_name : ℕ
no_such_name = 1

abbrev pub field_expected : Field → ℕ
field_expected register = 2
field_expected lane = 3
field_expected byte = 4
field_expected mark = 5

abbrev pub too_much : ℕ
too_much = 6

-- A line that is being read: the characters left and the step so far; or why it stands for none.
pub data State : Type 0 where
  going : List ℕ → List ℕ → State
  wrong : ℕ → State

abbrev pub store : ℕ → ℕ → List ℕ → Found → State
store place reason s (found n rest) = going rest (set s place n)
store place reason s nothing = wrong reason

-- A field, with blanks before it: its byte is stored at its place of the step.
unfoldable pub take_field : Field → ℕ → State → State
take_field f place (going cs s) = store place (field_expected f) s (find f (skip cs))
take_field f place (wrong n) = wrong n

-- so many fields of a kind, from a place on
unfoldable pub take_fields : Field → ℕ → ℕ → State → State
take_fields f zero place x = x
take_fields f (suc n) place x = take_fields f n (suc place) (take_field f place x)

-- "destination, sources a, b, c .., a lane .., sixteen bytes"
unfoldable pub take_form : Form → State → State
take_form f x =
    take_fields byte f.bytes 16 (take_fields lane f.lanes 6 (take_fields register f.registers f.first x))

-- "then `packed_half` (or `packed N`, the mark's byte)", which is byte 7. A blank stands before it, so that no hex digits run into it.
abbrev pub apart : List ℕ → Bool
apart [] = false
apart (c ∷ cs) = blank c

abbrev pub take_mark : List ℕ → List ℕ → State
take_mark s [] = going [] (set s 7 1)
take_mark s (c ∷ cs) = take_field mark 7 (going (c ∷ cs) s)

unfoldable pub take_packed : State → State
unfolding codes
take_packed (going cs s) =
    cond (apart cs && same (word (skip cs)) (codes "packed")) (take_mark s (skip (after (skip cs)))) (going cs s)
take_packed (wrong n) = wrong n

-- Nothing more is on the line.
abbrev pub nothing_more : List ℕ → List ℕ → Line
nothing_more s [] = step s
nothing_more s (c ∷ cs) = refused too_much

abbrev pub end_line : State → Line
end_line (going cs s) = nothing_more s (skip cs)
end_line (wrong n) = refused n

-- "A step is 32 bytes: 0..1 operation .. Numbers are little-endian", all others 0
abbrev pub blank_step : List ℕ
blank_step = replicate 32 0

abbrev pub of_operation : ℕ → List ℕ
of_operation n = set (set blank_step 0 (n % 256)) 1 (n / 256)

-- "WebAssembly's own name, then what the operation uses and nothing else"; a number of 276 is no name's
unfoldable pub named : ℕ → List ℕ → Line
named n cs = cond (ltb n 276) (end_line (take_packed (take_form (form n) (going cs (of_operation n))))) (refused no_such_name)

-- "`calculator_step` and 32 bytes in hex writes any step whatever"
unfoldable pub stated : List ℕ → Line
unfolding codes
stated [] = empty
stated (c ∷ cs) =
    cond (same (word (c ∷ cs)) (codes "step")) (end_line (take_fields byte 32 0 (going (after (c ∷ cs)) blank_step)))
    (named (names.number (word (c ∷ cs))) (after (c ∷ cs)))

unfoldable pub line : List ℕ → Line
line cs = stated (skip (statement cs))

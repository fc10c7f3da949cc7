-- What the code's values stand for.
use Rattle.std.specs.Prelude.{ℕ, ◌≤◌, ◌≡◌, Option, Some, None, Result, Ok, Err, cond, eqb, List, length, drop}
use Rattle.program_line.specs.Line as text
use Rattle.program_line.specs.declared.Reason.{Reason}
use Rattle.program_line.specs.declared.Reading.{Reading}

abbrev pub number_of : Reason → ℕ
number_of Reason.Name = 1
number_of Reason.Register = 2
number_of Reason.Lane = 3
number_of Reason.Byte = 4
number_of Reason.Mark = 5
number_of Reason.TooMuch = 6
number_of Reason.Steps = 7
number_of Reason.Bytes = 8

-- the reason of a number from 1 to 7, and the last for any other
abbrev pub reason_of : ℕ → Reason
reason_of n =
    cond (eqb n 1) Reason.Name
    (cond (eqb n 2) Reason.Register
    (cond (eqb n 3) Reason.Lane
    (cond (eqb n 4) Reason.Byte
    (cond (eqb n 5) Reason.Mark
    (cond (eqb n 6) Reason.TooMuch
    (cond (eqb n 7) Reason.Steps Reason.Bytes))))))

abbrev pub state_of : List ℕ → Result Reading Reason → text.State
state_of line (Ok r) = text.going (drop r.at line) r.step
state_of line (Err reason) = text.wrong (number_of reason)

-- the place that is reached lies in the line
abbrev pub inside : List ℕ → Result Reading Reason → Type 0
inside line (Ok r) = r.at ≤ length line
inside line (Err reason) = Unit

-- q is what a part of the line makes of r
pub record Stands (line : List ℕ) (q : Result Reading Reason) (take : text.State → text.State) (r : Reading) : Type 0 where
  pub inside : inside line q
  pub is : state_of line q ≡ take (state_of line (Ok r))

abbrev pub line_of : Result (Option (List ℕ)) Reason → text.Line
line_of (Ok None) = text.empty
line_of (Ok (Some step)) = text.step step
line_of (Err reason) = text.refused (number_of reason)

-- the one value for a line
abbrev pub read_of : text.Line → Result (Option (List ℕ)) Reason
read_of text.empty = Ok None
read_of (text.step s) = Ok (Some s)
read_of (text.refused n) = Err (reason_of n)

pub record ReadAs (l : text.Line) (r : Result (Option (List ℕ)) Reason) : Type 0 where
  pub says : line_of r ≡ l
  pub whole : r ≡ read_of l

-- What the code's values stand for.
use Rattle.std.specs.Prelude.{ℕ, zero, suc, ◌+◌, ◌-◌, ◌*◌, ◌≤◌, ◌≡◌, Result, Ok, Err, List, [], length}
use Rattle.program_digits.specs.Put.{written, Wrote}
use Rattle.program_line.specs.Line as text
use Rattle.program_assemble.specs.Text.{Assembled, too_many}
use Rattle.program_line.specs.Reads.{number_of}
use Rattle.program_line.specs.declared.Reason.{Reason}
use Rattle.program_assemble.specs.declared.Fault.{Fault}
use Rattle.program_assemble.specs.declared.Taken.{Taken}

-- Of a line, with room for so many steps: what it adds, the room after it, and why it is wrong, or 0.
abbrev pub added : ℕ → text.Line → List ℕ
added zero l = []
added (suc room) text.empty = []
added (suc room) (text.step s) = s
added (suc room) (text.refused r) = []

abbrev pub room_after : ℕ → text.Line → ℕ
room_after zero l = zero
room_after (suc room) text.empty = suc room
room_after (suc room) (text.step s) = room
room_after (suc room) (text.refused r) = suc room

abbrev pub fault : ℕ → text.Line → ℕ
fault room text.empty = 0
fault zero (text.step s) = too_many
fault (suc room) (text.step s) = 0
fault room (text.refused r) = r

-- After a line: how many steps there are, the place after them, and why the line is wrong, or 0. A wrong line leaves the steps as they are.
pub record Took : Type 0 where
  pub steps : ℕ
  pub at : ℕ
  pub reason : ℕ

abbrev pub taken_of : ℕ → ℕ → Result Taken Reason → Took
taken_of steps at (Ok t) = record { steps = t.steps; at = t.at; reason = 0 }
taken_of steps at (Err reason) = record { steps = steps; at = at; reason = number_of reason }

pub record TakesLine (l : text.Line) (steps at : ℕ) (before after : List ℕ) (r : Took) : Type 0 where
  pub some : l ≡ text.refused 0 → ⊥
  pub most : r.steps ≤ 256
  pub room : 256 - r.steps ≡ room_after (256 - steps) l
  pub counted : 32 * r.steps ≡ 32 * steps + length (added (256 - steps) l)
  pub reason : r.reason ≡ fault (256 - steps) l
  pub wrote : Wrote before at (added (256 - steps) l) after r.at

-- Of a text: how many steps there are, and the number of its first wrong line and why it is wrong; 0 and 0 where none is.
pub record HasRead : Type 0 where
  pub steps : ℕ
  pub line : ℕ
  pub reason : ℕ

abbrev pub read_of : Result ℕ Fault → HasRead
read_of (Ok steps) = record { steps = steps; line = 0; reason = 0 }
read_of (Err f) = record { steps = f.steps; line = f.line; reason = number_of f.reason }

-- the answer to a text, and the lent list after it
pub record Assembles (a : Assembled) (before after : List ℕ) (r : HasRead) : Type 0 where
  pub most : r.steps ≤ 256
  pub steps : 32 * r.steps ≡ length a.steps
  pub line : r.line ≡ a.line
  pub reason : r.reason ≡ a.reason
  pub written : after ≡ written before 0 a.steps

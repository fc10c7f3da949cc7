-- `capture_feeding::with_room` meets its contract. Assumes nothing.
use mathlib.Core.Path.{refl}
use mathlib.Core.Logic.{inl, inr}
use native.Mathlib.Omega.{arith}
use Rattle.capture_feeding.proofs.with_room.Goals as goal

pub returns-then-wanted-window : goal.returns-then-wanted-window
returns-then-wanted-window c = record { kept = λ L X s. record { stands = s; same = refl }; room_or_in_first_byte = λ L X s. inl (omega arith) }

pub returns : goal.returns
returns c = let made = c.make_room.ensures in record { kept = made.kept; room_or_in_first_byte = λ L X s. inr (made.in_first_byte L X s) }

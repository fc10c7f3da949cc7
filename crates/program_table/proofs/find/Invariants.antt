-- `program_table::find` meets its contract: each turn passes one line. Assumes nothing.
use Prim.Native.Nat.{◌+◌, ◌-◌, ◌≤◌}
use mathlib.Core.Path.{◌≡◌}
use lib.ListN.{length, drop}
use Rattle.program_words.specs.Cut.{newline, pieces}
use Rattle.program_table.specs.Place.{place}
use Rattle.program_table.proofs.find.Given as goal

abbrev pub invariant-loop-line : goal.invariant-loop-line
invariant-loop-line l =
    (l.at ≤ length l.lines) × (l.n ≤ l.at) × (place (pieces newline l.lines) l.line ≡ l.n + place (pieces newline (drop l.at l.lines)) l.line)

abbrev pub decreases-loop-line : goal.decreases-loop-line
decreases-loop-line l = length l.lines - l.at

-- `program_table::nth` meets its contract: each turn passes one line. Assumes nothing.
use Prim.Native.Nat.{◌≤◌}
use mathlib.Core.Path.{◌≡◌}
use mathlib.Core.List.{[]}
use lib.ListN.{length, get_or, drop}
use Rattle.program_words.specs.Cut.{newline, pieces}
use Rattle.program_table.proofs.nth.Given as goal

abbrev pub invariant-loop-k : goal.invariant-loop-k
invariant-loop-k l =
    (l.at ≤ length l.lines) × (get_or (pieces newline l.lines) l.n [] ≡ get_or (pieces newline (drop l.at l.lines)) l.k [])

abbrev pub decreases-loop-k : goal.decreases-loop-k
decreases-loop-k l = l.k

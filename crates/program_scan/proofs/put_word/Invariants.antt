-- `program_scan::put_word` meets its contract. Assumes nothing.
use Prim.Native.Nat.{◌-◌, ◌≤◌}
use mathlib.Core.Path.{◌≡◌}
use lib.ListN.{length, drop}
use lib.Seq.{paste}
use Rattle.program_scan.specs.Pen.{little}
use Rattle.program_scan.proofs.put_word.Given as goal

abbrev pub invariant-loop-i : goal.invariant-loop-i
invariant-loop-i l =
    (l.i ≤ l.count) × (length l.block ≡ length l.initial.block) × (l.block ≡ paste l.initial.block l.at (little l.count l.word) l.i)
    × (drop l.i (little l.count l.word) ≡ little (l.count - l.i) l.rest)

abbrev pub decreases-loop-i : goal.decreases-loop-i
decreases-loop-i l = l.count - l.i

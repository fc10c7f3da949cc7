-- `program_scan::put_many` meets its contract. Assumes nothing.
use Prim.Native.Nat.{◌+◌, ◌*◌, ◌-◌, ◌≤◌}
use mathlib.Core.Path.{◌≡◌}
use lib.ListN.{length}
use Rattle.program_digits.specs.Put.{Wrote}
use Rattle.program_scan.specs.Lines.{lines}
use Rattle.program_scan.specs.Pen.{Ready, all_told}
use Rattle.program_scan.proofs.put_many.Given as goal

abbrev pub invariant-loop-j : goal.invariant-loop-j
invariant-loop-j l =
    (l.j ≤ 32) × (length l.block ≡ length l.initial.block) × (length l.text ≡ length l.initial.text) × Ready l.text l.pen.digits l.pen.tail (l.number + 8 * l.j)
    × Wrote l.initial.block l.initial.pen.used (lines (all_told l.codes l.number l.j)) l.block l.pen.used × (l.pen.used ≤ l.initial.pen.used + 352 * l.j)

abbrev pub decreases-loop-j : goal.decreases-loop-j
decreases-loop-j l = 32 - l.j

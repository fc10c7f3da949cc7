-- `program_scan::put_byte` meets its contract. Assumes nothing.
use Prim.Native.Nat.{◌+◌, ◌*◌, ◌-◌, ◌/◌, ◌%◌, ◌≤◌}
use mathlib.Core.Path.{◌≡◌}
use lib.ListN.{length}
use Rattle.program_digits.specs.Put.{Wrote}
use Rattle.program_scan.specs.Lines.{lines}
use Rattle.program_scan.specs.Pen.{Ready, tolds}
use Rattle.program_scan.proofs.put_byte.Given as goal

abbrev pub invariant-loop-i : goal.invariant-loop-i
invariant-loop-i l =
    (l.i % 32 ≡ l.from) × (l.i ≤ l.from + 256) × (length l.block ≡ length l.initial.block) × (length l.text ≡ length l.initial.text)
    × Ready l.text l.pen.digits l.pen.tail (l.number + l.i / 32)
    × Wrote l.initial.block l.initial.pen.used (lines (tolds l.codes l.from l.number (l.i / 32))) l.block l.pen.used
    × (l.pen.used ≤ l.initial.pen.used + 44 * (l.i / 32))

abbrev pub decreases-loop-i : goal.decreases-loop-i
decreases-loop-i l = 288 - l.i

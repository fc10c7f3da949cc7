-- `program_scan::walk` meets its contract. Assumes nothing.
use Prim.Native.Nat.{◌+◌, ◌-◌, ◌≤◌}
use mathlib.Core.Path.{◌≡◌}
use mathlib.Core.Bool.{true}
use lib.ListN.{length}
use Rattle.finder_windows.specs.Definition.{bits, marker_bits}
use Rattle.finder_columns.specs.Columns.{Columns}
use Rattle.capture_meetings.specs.Meetings.{all_from, shift}
use Rattle.program_digits.specs.Put.{Wrote}
use Rattle.program_scan.specs.Lines.{lines}
use Rattle.program_scan.specs.Pen.{Ready}
use Rattle.program_scan.proofs.walk.Given as goal

abbrev pub invariant-loop-at : goal.invariant-loop-at
invariant-loop-at l =
    (l.from ≤ l.at) × (l.at ≤ l.end) × (length l.block ≡ length l.initial.block) × (length l.text ≡ 48)
    × (length l.first ≡ 256) × (length l.second ≡ 256) × (l.pen.used ≤ length l.initial.block)
    × (l.dense ≡ true → Ready l.text l.pen.digits l.pen.tail (l.base + l.at))
    × (Columns l.marker l.tolerance l.table
    → Wrote l.initial.block 0
    (lines (shift l.base (all_from (bits l.buffer) (marker_bits l.marker) l.tolerance l.frame (l.at - l.from) l.from))) l.block l.pen.used
    × (length (lines (shift l.base (all_from (bits l.buffer) (marker_bits l.marker) l.tolerance l.frame (l.at - l.from) l.from))) ≡ l.pen.used))

abbrev pub decreases-loop-at : goal.decreases-loop-at
decreases-loop-at l = l.end - l.at

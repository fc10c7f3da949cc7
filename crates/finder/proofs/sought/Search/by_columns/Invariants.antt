-- `finder::sought::Search::by_columns` meets its contract: what a search from the byte reached gives is the answer. Assumes nothing.
use Prim.Native.Nat.{◌+◌, ◌*◌, ◌-◌, ◌≤◌}
use mathlib.Core.Path.{◌≡◌}
use Rattle.finder_windows.specs.Definition.{bits, marker_bits, first_from}
use Rattle.finder_columns.specs.Columns.{Columns}
use Rattle.finder.proofs.sought.Search.by_columns.Given as goal

abbrev pub invariant-loop-at : goal.invariant-loop-at
invariant-loop-at l =
    Columns l.self.marker l.self.tolerance l.table
    → (l.from ≤ l.at) × (l.at ≤ l.end)
    × (first_from (bits l.self.buffer.now) (marker_bits l.self.marker) l.self.tolerance l.self.frame l.count (8 * l.from)
    ≡ first_from (bits l.self.buffer.now) (marker_bits l.self.marker) l.self.tolerance l.self.frame (8 * l.from + l.count - 8 * l.at) (8 * l.at))

abbrev pub decreases-loop-at : goal.decreases-loop-at
decreases-loop-at l = l.end - l.at

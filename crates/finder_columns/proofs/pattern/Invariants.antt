-- `finder_columns::pattern` meets its contract: each turn puts the piece of one window more below those that stand in the half. Assumes nothing.
use Prim.Native.Nat.{◌*◌, ◌-◌, ◌^◌, ◌<◌, ◌≤◌}
use mathlib.Core.Path.{◌≡◌}
use Rattle.standard.specs.Lanes.{joined}
use Rattle.finder_columns.specs.Columns.{row, piece}
use Rattle.finder_columns.proofs.pattern.Given as goal

abbrev pub invariant-loop-i : goal.invariant-loop-i
invariant-loop-i l = (l.i ≤ 8) × (l.lanes < 2 ^ (8 * l.i)) × (l.lanes ≡ joined 8 (row (piece l.marker l.q) (8 - l.i) l.i))

abbrev pub decreases-loop-i : goal.decreases-loop-i
decreases-loop-i l = 8 - l.i

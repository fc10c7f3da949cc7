-- `finder_columns::fill` meets its contract: entry by entry, sixteen for each high nibble. Assumes nothing.
use Prim.Native.Nat.{◌+◌, ◌*◌, ◌-◌, ◌≤◌}
use Rattle.finder_columns.specs.Columns.{Made}
use Rattle.finder_columns.proofs.fill.Given as goal

abbrev pub invariant-loop-l : goal.invariant-loop-l
invariant-loop-l l = (l.l ≤ 16) × Made l.marker l.tolerance l.table (256 * l.q + 16 * l.h + l.l)

abbrev pub decreases-loop-l : goal.decreases-loop-l
decreases-loop-l l = 16 - l.l

abbrev pub invariant-loop-h : goal.invariant-loop-h
invariant-loop-h l = (l.h ≤ 16) × Made l.marker l.tolerance l.table (256 * l.q + 16 * l.h)

abbrev pub decreases-loop-h : goal.decreases-loop-h
decreases-loop-h l = 16 - l.h

-- `finder_columns::columns` meets its contract. Assumes nothing.
use Prim.Native.Nat.{◌*◌, ◌-◌, ◌≤◌}
use Rattle.finder_columns.specs.Columns.{Made}
use Rattle.finder_columns.proofs.columns.Given as goal

abbrev pub invariant-loop-q : goal.invariant-loop-q
invariant-loop-q l =
    (1 ≤ l.q) × (l.q ≤ 5) × Made l.marker l.tolerance l.table (256 * l.q)

abbrev pub decreases-loop-q : goal.decreases-loop-q
decreases-loop-q l = 5 - l.q

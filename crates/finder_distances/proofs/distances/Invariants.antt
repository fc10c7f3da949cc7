-- `finder_distances::distances` meets its contract. Assumes nothing.
use Prim.Native.Nat.{◌+◌, ◌*◌, ◌-◌, ◌/◌, ◌≤◌}
use lib.ListN.{length}
use Rattle.finder_distances.specs.Windows.{Laid}
use Rattle.finder_distances.proofs.distances.Given as goal

abbrev pub invariant-loop-k : goal.invariant-loop-k
invariant-loop-k l =
    (l.k ≤ 8) × (l.p / 8 + 37 ≤ length l.buffer → Laid l.buffer l.p l.marker l.initial.away 0 → Laid l.buffer l.p l.marker l.away (32 * l.k))

abbrev pub decreases-loop-k : goal.decreases-loop-k
decreases-loop-k l = 8 - l.k

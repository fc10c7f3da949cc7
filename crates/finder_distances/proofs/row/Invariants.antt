-- `finder_distances::row` meets its contract. Assumes nothing.
use Prim.Native.Nat.{ℕ, ◌+◌, ◌*◌, ◌-◌, ◌≤◌}
use mathlib.Core.List.{List}
use lib.ListN.{length}
use Rattle.finder_distances.specs.Windows.{Laid, Spread}
use Rattle.finder_distances.proofs.row.Given as goal

abbrev pub invariant-loop-j : goal.invariant-loop-j
invariant-loop-j l =
    (l.j ≤ 32)
    × ((bs : List ℕ) (byte : ℕ) → byte + 37 ≤ length bs → Spread bs byte l.heads l.nexts 33 → Laid bs (8 * byte + l.bit) l.marker l.initial.away (32 * l.k)
    → Laid bs (8 * byte + l.bit) l.marker l.away (32 * l.k + l.j))

abbrev pub decreases-loop-j : goal.decreases-loop-j
decreases-loop-j l = 32 - l.j

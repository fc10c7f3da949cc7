-- `finder_distances::spread` meets its contract. Assumes nothing.
use Prim.Native.Nat.{◌-◌, ◌≤◌}
use Rattle.finder_distances.specs.Windows.{Spread}
use Rattle.finder_distances.proofs.spread.Given as goal

abbrev pub invariant-loop-j : goal.invariant-loop-j
invariant-loop-j l = (l.j ≤ 33) × (Spread l.buffer l.byte l.initial.heads l.initial.nexts 0 → Spread l.buffer l.byte l.heads l.nexts l.j)

abbrev pub decreases-loop-j : goal.decreases-loop-j
decreases-loop-j l = 33 - l.j

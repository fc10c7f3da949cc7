-- `fold::links_of` meets its contract: a link a turn. Assumes nothing.
use Prim.Native.Nat.{◌≤◌, ◌-◌}
use mathlib.Core.Path.{◌≡◌}
use lib.ListN.{length, take}
use Rattle.fold.specs.Text.{links}
use Rattle.fold.proofs.links_of.Given as goal

abbrev pub invariant-loop-k : goal.invariant-loop-k
invariant-loop-k l = (l.k ≤ 17) × ((length l.links ≡ 17) × (take l.k l.links ≡ links l.k l.bytes))

abbrev pub decreases-loop-k : goal.decreases-loop-k
decreases-loop-k l = 17 - l.k

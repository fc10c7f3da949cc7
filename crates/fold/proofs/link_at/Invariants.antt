-- `fold::link_at` meets its contract: a byte a turn. Assumes nothing.
use Prim.Native.Nat.{◌≤◌, ◌-◌, ◌*◌}
use mathlib.Core.Path.{◌≡◌}
use lib.ListN.{length, take, drop}
use Rattle.fold.proofs.link_at.Given as goal

abbrev pub invariant-loop-j : goal.invariant-loop-j
invariant-loop-j l = (l.j ≤ 17) × ((length l.link ≡ 17) × (take l.j l.link ≡ take l.j (drop (17 * l.k) l.bytes)))

abbrev pub decreases-loop-j : goal.decreases-loop-j
decreases-loop-j l = 17 - l.j

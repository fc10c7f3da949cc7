-- `finder_distances::four_at` meets its contract. Assumes nothing.
use Prim.Native.Nat.{◌*◌, ◌-◌, ◌^◌, ◌<◌, ◌≤◌}
use mathlib.Core.Path.{◌≡◌}
use lib.ListN.{take, drop}
use Rattle.finder_windows.specs.Definition.{binary, bits}
use Rattle.finder_distances.proofs.four_at.Given as goal

abbrev pub invariant-loop-i : goal.invariant-loop-i
invariant-loop-i l = (l.i ≤ 4) × (l.word < 2 ^ (8 * l.i)) × (binary (8 * l.i) l.word ≡ bits (take l.i (drop l.at l.buffer)))

abbrev pub decreases-loop-i : goal.decreases-loop-i
decreases-loop-i l = 4 - l.i

-- `finder::word_at` meets its contract: each turn puts a byte's bits below those that stand in the word. Assumes nothing.
use Prim.Native.Nat.{◌*◌, ◌-◌, ◌^◌, ◌<◌, ◌≤◌}
use mathlib.Core.Path.{◌≡◌}
use lib.ListN.{take, drop}
use Rattle.finder_windows.specs.Definition.{binary, bits}
use Rattle.finder.proofs.word_at.Given as goal

abbrev pub invariant-loop-i : goal.invariant-loop-i
invariant-loop-i l = (l.i ≤ 8) × (l.word < 2 ^ (8 * l.i)) × (binary (8 * l.i) l.word ≡ bits (take l.i (drop l.at l.buffer)))

abbrev pub decreases-loop-i : goal.decreases-loop-i
decreases-loop-i l = 8 - l.i

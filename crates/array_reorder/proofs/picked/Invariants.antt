-- `array_reorder::picked` meets its contract: a loop that fills the lanes. Assumes nothing.
use Prim.Native.Nat.{◌≤◌, ◌-◌, ◌%◌}
use mathlib.Core.Path.{◌≡◌}
use lib.ListN.{get_or}
use Rattle.standard.proofs.Loop.{zip_to}
use Rattle.array_reorder.proofs.picked.Given as goal

abbrev pub invariant-loop-i : goal.invariant-loop-i
invariant-loop-i l = (l.i ≤ 16) × (l.out ≡ zip_to (λ x y. get_or l.t (y % 32) 0) l.i l.initial.out l.s)

abbrev pub decreases-loop-i : goal.decreases-loop-i
decreases-loop-i l = 16 - l.i

-- `array_reorder::all_legal` meets its contract: a loop over the indices. Assumes nothing.
use Prim.Native.Nat.{◌≤◌, ◌-◌}
use mathlib.Core.Path.{◌≡◌}
use lib.ListN.{drop}
use Rattle.standard.specs.Refusal.{legal}
use Rattle.array_reorder.proofs.all_legal.Given as goal

abbrev pub invariant-loop-i : goal.invariant-loop-i
invariant-loop-i l = (l.i ≤ 16) × (legal (drop l.i l.s) ≡ legal l.s)

abbrev pub decreases-loop-i : goal.decreases-loop-i
decreases-loop-i l = 16 - l.i

-- `array_reorder::all_capped` meets its contract: a loop that fills the places. Assumes nothing.
use Prim.Native.Nat.{◌≤◌, ◌-◌}
use mathlib.Core.Path.{◌≡◌}
use Rattle.standard.specs.Integer.{imin_u}
use Rattle.standard.proofs.Loop.{zip_to}
use Rattle.array_reorder.proofs.all_capped.Given as goal

abbrev pub invariant-loop-i : goal.invariant-loop-i
invariant-loop-i l = (l.i ≤ 64) × (l.out ≡ zip_to (λ x y. imin_u 8 y 16) l.i l.initial.out l.s)

abbrev pub decreases-loop-i : goal.decreases-loop-i
decreases-loop-i l = 64 - l.i

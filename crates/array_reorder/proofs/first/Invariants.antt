-- `array_reorder::first` meets its contract: a loop that copies sixteen bytes. Assumes nothing.
use Prim.Native.Nat.{◌≤◌, ◌-◌}
use mathlib.Core.Path.{◌≡◌}
use Rattle.standard.proofs.Loop.{zip_to}
use Rattle.array_reorder.proofs.first.Given as goal

abbrev pub invariant-loop-i : goal.invariant-loop-i
invariant-loop-i l = (l.i ≤ 16) × (l.out ≡ zip_to (λ x y. y) l.i l.initial.out l.s)

abbrev pub decreases-loop-i : goal.decreases-loop-i
decreases-loop-i l = 16 - l.i

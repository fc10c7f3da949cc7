-- `lane_float_narrow::sizes` meets its contract: a loop over the lanes and the idle places. Assumes nothing.
use mathlib.Core.Path.{◌≡◌}
use Prim.Native.Nat.{◌-◌, ◌≤◌}
use lib.IntN.{nat_abs}
use Rattle.standard.specs.Integer.{signed}
use Rattle.standard.proofs.Loop.{zip_to}
use Rattle.lane_float_narrow.proofs.sizes.Given as goal

abbrev pub invariant-loop-i : goal.invariant-loop-i
invariant-loop-i l = (l.i ≤ 64) × (l.r ≡ zip_to (λ n m. nat_abs (signed 32 m)) l.i l.initial.r l.x)

abbrev pub decreases-loop-i : goal.decreases-loop-i
decreases-loop-i l = 64 - l.i

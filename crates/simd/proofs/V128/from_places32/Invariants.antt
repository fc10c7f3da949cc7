-- `simd::V128::from_places32` meets its contract: a loop that copies the lanes. Assumes nothing.
use Prim.Native.Nat.{◌≤◌, ◌-◌}
use mathlib.Core.Path.{◌≡◌}
use Rattle.standard.proofs.Loop.{zip_to}
use Rattle.simd.proofs.V128.from_places32.Given as goal

abbrev pub invariant-loop-i : goal.invariant-loop-i
invariant-loop-i l = (l.i ≤ 4) × (l.r ≡ zip_to (λ x y. y) l.i l.initial.r l.s)

abbrev pub decreases-loop-i : goal.decreases-loop-i
decreases-loop-i l = 4 - l.i

-- `lane_float_arithmetic::pairs64` meets its contract: a loop over the lanes and the idle places. Assumes nothing.
use mathlib.Core.Path.{◌≡◌}
use Prim.Native.Nat.{ℕ, ◌-◌, ◌≤◌}
use Rattle.standard.proofs.Loop.{zip_to}
use Rattle.lane_float_arithmetic.proofs.pairs64.Given as goal

abbrev pub invariant-loop-i : goal.invariant-loop-i
invariant-loop-i g l =
    (l.i ≤ 20) × ((h : ℕ → ℕ → ℕ) → ((x y r : ℕ) → goal.F-post g l.f x y r → r ≡ h x y) → l.x ≡ zip_to h l.i l.initial.x l.y)

abbrev pub decreases-loop-i : goal.decreases-loop-i
decreases-loop-i g l = 20 - l.i

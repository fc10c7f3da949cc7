-- `lane_float_parts::side_by_side` meets its contract: a loop over the lanes and the idle places. Assumes nothing.
use Rattle.std.proofs.Common.{◌≡◌, ℕ, ◌-◌, ◌≤◌}
use Rattle.standard.proofs.Loop.{zip_to}
use Rattle.lane_float_parts.proofs.side_by_side.Given as goal

abbrev pub invariant-loop-i : goal.invariant-loop-i
invariant-loop-i g l = (l.i ≤ 24) × ((h : ℕ → ℕ) → ((x r : ℕ) → goal.F-post g l.f x r → r ≡ h x) → l.r ≡ zip_to (λ u v. h v) l.i l.initial.r l.x)

abbrev pub decreases-loop-i : goal.decreases-loop-i
decreases-loop-i g l = 24 - l.i

-- `finder_passing::passed` meets its contract: every window that begins before the place reached is too far. Assumes nothing.
use Rattle.std.proofs.Common.{ℕ, ◌-◌, ◌^◌, ◌<◌, ◌≤◌}
use Rattle.finder_columns.specs.Columns.{Columns}
use Rattle.finder_passing.specs.Next.{Far}
use Rattle.finder_passing.proofs.passed.Given as goal

abbrev pub invariant-loop-at : goal.invariant-loop-at
invariant-loop-at l = (l.from ≤ l.at) × (l.at ≤ l.last) × ((m t : ℕ) → m < 2 ^ 32 → Columns m t l.table → Far l.buffer m t l.from l.at)

abbrev pub decreases-loop-at : goal.decreases-loop-at
decreases-loop-at l = l.last - l.at

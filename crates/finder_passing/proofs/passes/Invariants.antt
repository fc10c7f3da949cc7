-- `finder_passing::passes` meets its contract: every top bit is left exactly where each window passed is too far. Assumes nothing.
use Rattle.std.proofs.Common.{◌≡◌, ℕ, ◌+◌, ◌-◌, ◌^◌, ◌<◌, ◌≤◌}
use Rattle.finder_columns.specs.Columns.{Columns}
use Rattle.finder_passing.specs.Next.{Far}
use Rattle.finder_passing.proofs.passes.Given as goal

abbrev pub invariant-loop-i : goal.invariant-loop-i
invariant-loop-i l =
    (l.i ≤ l.n) × (l.tops ≤ 0x8080808080808080)
    × ((m t : ℕ) → m < 2 ^ 32 → Columns m t l.table
    → (l.tops ≡ 0x8080808080808080 → Far l.buffer m t l.at (l.at + l.i)) × (Far l.buffer m t l.at (l.at + l.i) → l.tops ≡ 0x8080808080808080))

abbrev pub decreases-loop-i : goal.decreases-loop-i
decreases-loop-i l = l.n - l.i

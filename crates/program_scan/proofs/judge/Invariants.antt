-- `program_scan::judge` meets its contract. Assumes nothing.
use Prim.Native.Nat.{ℕ, ◌-◌, ◌<◌, ◌≤◌}
use mathlib.Core.Path.{◌≡◌}
use lib.ListN.{length, get_or}
use Rattle.program_scan.specs.Pen.{coded}
use Rattle.program_scan.proofs.judge.Given as goal

abbrev pub invariant-loop-i : goal.invariant-loop-i
invariant-loop-i l =
    (l.i ≤ 256) × (length l.second ≡ length l.initial.second)
    × ((j : ℕ) → j < l.i → get_or l.second j 0 ≡ coded (get_or l.first j 0) (get_or l.initial.second j 0) l.tolerance)
    × ((j : ℕ) → l.i ≤ j → get_or l.second j 0 ≡ get_or l.initial.second j 0)

abbrev pub decreases-loop-i : goal.decreases-loop-i
decreases-loop-i l = 256 - l.i

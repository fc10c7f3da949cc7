-- `finder::sought::Search::near` meets its contract: while none is near, each window passed is too far. Assumes nothing.
use Prim.Native.Nat.{ℕ, ◌-◌, ◌<◌, ◌≤◌}
use mathlib.Core.Path.{◌≡◌}
use mathlib.Core.Bool.{false}
use Rattle.finder_windows.specs.Definition.{binary, marker_bits, window, distance}
use Rattle.finder.proofs.sought.Search.near.Given as goal

abbrev pub invariant-loop-k : goal.invariant-loop-k
invariant-loop-k l =
    (l.k ≤ 32) × (l.any ≡ false → (j : ℕ) → j < l.k → l.self.tolerance < distance (window (binary 64 l.word) j) (marker_bits l.self.marker))

abbrev pub decreases-loop-k : goal.decreases-loop-k
decreases-loop-k l = 32 - l.k

-- `row_halves::combine` meets its contract: a loop over the halves. Assumes nothing.
use mathlib.Core.Path.{◌≡◌}
use Prim.Native.Nat.{ℕ, ◌^◌, ◌<◌}
use Rattle.row_halves.proofs.Pairs.{Turning}
use Rattle.row_halves.proofs.combine.Given as goal

abbrev pub invariant-loop-i : goal.invariant-loop-i
invariant-loop-i g l =
    (half : ℕ → ℕ → ℕ) → ((x y r : ℕ) → x < 2 ^ 64 → y < 2 ^ 64 → goal.F-post g l.f x y r → r ≡ half x y) → Turning half l.initial.first l.second l.first l.i

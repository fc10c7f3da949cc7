-- A loop over the places of a vector: those that it has passed have what the function gives there.
use Rattle.std.proofs.Common.{◌≡◌, ℕ, map, length}
use Rattle.standard.proofs.Loop.{zip_to}
use Rattle.simd.specs.Gives.{Gives}
use Rattle.simd.proofs.lanes.at_each.Given as goal

abbrev pub invariant-loop-i : goal.invariant-loop-i
invariant-loop-i g l =
    goal.F-IsAlwaysCallable g l.f
    × (length (g.M.Lanes.listed l.r) ≡ g.L.Lanes.COUNT)
    × ((op : ℕ → ℕ) → Gives g.L.Lane.number g.M.Lane.number (goal.F-post g l.f) op
    → map g.M.Lane.number (g.M.Lanes.listed l.r)
    ≡ zip_to (λ x y. op y) l.i (map g.M.Lane.number (g.M.Lanes.listed l.initial.r)) (map g.L.Lane.number (g.L.Lanes.listed l.a)))

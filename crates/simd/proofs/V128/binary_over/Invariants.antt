-- A loop over the lanes and the idle places: the places that it has passed have what the function gives there.
use Rattle.std.proofs.Common.{◌≡◌, ℕ, map, length}
use Rattle.standard.proofs.Loop.{zip_to}
use Rattle.simd.specs.Gives.{GivesOfTwo}
use Rattle.simd.proofs.V128.binary_over.Given as goal

abbrev pub invariant-loop-i : goal.invariant-loop-i
invariant-loop-i g l =
    goal.F-IsAlwaysCallable g l.f
    × (length (g.L.Lanes.listed l.a) ≡ g.L.Lanes.COUNT)
    × ((op : ℕ → ℕ → ℕ) → GivesOfTwo g.L.Lane.number (goal.F-post g l.f) op
    → map g.L.Lane.number (g.L.Lanes.listed l.a)
    ≡ zip_to op l.i (map g.L.Lane.number (g.L.Lanes.listed l.initial.a)) (map g.L.Lane.number (g.L.Lanes.listed l.b)))

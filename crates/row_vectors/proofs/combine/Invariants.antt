-- `row_vectors::combine` meets its contract: a loop over the vectors. Assumes nothing.
use mathlib.Core.Path.{◌≡◌}
use Prim.Native.Nat.{ℕ}
use Rattle.simd.specs.Number.{number}
use Rattle.simd.specs.declared.V128.{V128}
use Rattle.row_vectors.proofs.Numbers.{Turning}
use Rattle.row_vectors.proofs.combine.Given as goal

abbrev pub invariant-loop-i : goal.invariant-loop-i
invariant-loop-i g l =
    (h : ℕ → ℕ → ℕ) → ((a b r : V128) → goal.F-post g l.f a b r → number r ≡ h (number a) (number b)) → Turning h l.initial.first l.second l.first l.i

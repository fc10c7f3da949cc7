-- `lane_float_arithmetic::lanes64` meets its contract. Assumes nothing.
use borrow.Author.Rules.{rules}
use mathlib.Core.Path.{◌≡◌, refl}
use mathlib.Core.List.{List, [], ◌∷◌}
use Prim.Native.Nat.{ℕ, ◌≤◌}
use native.Mathlib.Omega.{arith}
use lib.ListN.{length, get_or, take}
use Rattle.lane_float_arithmetic.proofs.lanes64.Goals as goal

first : (s : List ℕ) → 2 ≤ length s → get_or s 0 0 ∷ get_or s 1 0 ∷ [] ≡ take 2 s
first [] h = absurd (omega arith)
first (x ∷ []) h = absurd (omega arith)
first (x ∷ y ∷ s) h = refl

pub returns : goal.returns
returns c = first c.args.s (search rules)

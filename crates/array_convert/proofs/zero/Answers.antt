-- `array_convert::zero` meets its contract: both lanes in one half, and zeros in the other. Assumes nothing.
use borrow.Author.Rules.{rules}
use mathlib.Core.Path.{ap}
use mathlib.Core.List.{[], ◌∷◌, map}
use Prim.Native.Nat.{ℕ}
use Rattle.standard.specs.Lanes.{joined}
use Rattle.standard.proofs.Halves.{all_elements}
use Rattle.array_convert.proofs.zero.Goals as goal

pub returns : goal.returns
returns g c = λ h e.
    rw (c.half.ensures, e _ _ c.f.ensures, e _ _ c.f-2.ensures)
    (ap (λ (n : ℕ). n ∷ 0 ∷ []) (ap (joined 32) (ap (map h) (all_elements c.args.a 2 (search rules)))))

-- `simd::V128::extend32` meets its contract. Assumes nothing.
use mathlib.Core.Path.{refl, ◌∙◌}
use Rattle.standard.proofs.Widths.{extend_half}
use Rattle.simd.proofs.V128.extend32.Goals as goal

pub returns : goal.returns
returns g c = λ sx k. c.widen32.ensures sx k ∙ extend_half 32 2 refl _ sx _ _ (c.half.ensures 32 2 refl refl)

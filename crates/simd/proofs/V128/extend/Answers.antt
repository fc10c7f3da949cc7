-- `simd::V128::extend` meets its contract. Assumes nothing.
use mathlib.Core.Path.{refl, ◌∙◌}
use Rattle.standard.proofs.Widths.{extend_half}
use Rattle.simd.proofs.V128.extend.Goals as goal

pub returns : goal.returns
returns g c = λ sx k. c.widen.ensures sx k ∙ extend_half _ _ refl _ sx _ _ (c.half.ensures _ _ c.requires.halves.0 c.requires.halves.1)

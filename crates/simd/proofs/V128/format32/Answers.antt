-- `simd::V128::format32` meets its contract: each of the four lanes. Assumes nothing.
use mathlib.Core.Path.{ap, ◌∙◌}
use mathlib.Core.List.{map}
use Rattle.standard.specs.Lanes.{joined, unary}
use Rattle.simd.proofs.V128.format32.Goals as goal

pub returns : goal.returns
unfolding unary
returns g c = λ h e. c.join32.ensures ∙ ap (joined 32) (c.each32.ensures h e ∙ ap (map h) c.lanes32.ensures)

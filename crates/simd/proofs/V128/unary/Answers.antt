-- `simd::V128::unary` meets its contract. Assumes nothing.
use mathlib.Core.Path.{◌∙◌}
use Rattle.simd.proofs.Extended.{unary_is}
use Rattle.simd.proofs.V128.unary.Goals as goal

pub returns : goal.returns
returns g c = λ op k. c.of_places.ensures ∙ unary_is _ op _ _ (c.at_each.ensures op k)

-- `simd::V128::f32x4_convert_i32x4_u` meets its contract: each of the four lanes. Assumes nothing.
use mathlib.Core.Path.{ap, ◌∙◌}
use mathlib.Core.List.{map}
use Rattle.standard.specs.Lanes.{joined, unary}
use Rattle.simd.proofs.V128.f32x4_convert_i32x4_u.Goals as goal

pub returns : goal.returns
unfolding unary
returns c = c.join32.ensures ∙ ap (joined 32) (c.convert_u32x4.ensures ∙ ap (map _) c.lanes32.ensures)

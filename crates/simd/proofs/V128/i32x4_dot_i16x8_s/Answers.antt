-- `simd::V128::i32x4_dot_i16x8_s` meets its contract. Assumes nothing.
use borrow.Author.Rules.{rules}
use mathlib.Core.Path.{◌∙◌}
use Rattle.standard.proofs.Pairs.{dot_16}
use Rattle.lane_width.specs.Widen.{pair_product}
use Rattle.simd.proofs.V128.i32x4_dot_i16x8_s.Goals as goal

pub returns : goal.returns
returns c = c.binary_over.ensures (pair_product 16) (λ x y r e. search rules) ∙ dot_16 _ _

-- `simd::V128::i32x4_extadd_pairwise_i16x8_s` meets its contract. Assumes nothing.
use borrow.Author.Rules.{rules}
use mathlib.Core.Path.{◌∙◌}
use Rattle.standard.specs.Integer.{extend_s}
use Rattle.standard.proofs.Pairs.{extadd_16}
use Rattle.lane_width.specs.Widen.{pair_sum}
use Rattle.simd.proofs.V128.i32x4_extadd_pairwise_i16x8_s.Goals as goal

pub returns : goal.returns
returns c = c.unary.ensures (pair_sum extend_s 16) (λ x r e. search rules) ∙ extadd_16 extend_s _

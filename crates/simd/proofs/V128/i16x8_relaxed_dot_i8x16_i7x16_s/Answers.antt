-- `simd::V128::i16x8_relaxed_dot_i8x16_i7x16_s` meets its contract. Assumes nothing.
use borrow.Author.Rules.{rules}
use mathlib.Core.Path.{◌∙◌}
use Rattle.standard.proofs.Pairs.{dot_8}
use Rattle.lane_width.specs.Widen.{pair_product}
use Rattle.simd.proofs.V128.i16x8_relaxed_dot_i8x16_i7x16_s.Goals as goal

pub returns : goal.returns
returns c = c.binary.ensures (pair_product 8) (λ x y r e. search rules) ∙ dot_8 _ _

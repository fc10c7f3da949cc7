-- `simd::V128::i64x2_extract_lane` meets its contract. Assumes nothing.
use borrow.Author.Rules.{rules}
use mathlib.Core.Path.{ap, ◌∙◌}
use mir.Syntax.{w64}
use Rattle.standard.specs.Integer.{modulo}
use Rattle.standard.proofs.Access.{lane_taken}
use Rattle.lane_integer.proofs.Magnitude.{kept}
use Rattle.lane_integer.proofs.Signed.{modulo_signed}
use Rattle.simd.proofs.V128.i64x2_extract_lane.Goals as goal

pub returns : goal.returns
returns c = lane_taken 64 _ c.in_ok-lane_below.ensures.below
    (ap (modulo 64) (kept w64 c.signed.type_inv c.signed.ensures) ∙ modulo_signed w64 _ (search rules) ∙ c.lane.ensures)

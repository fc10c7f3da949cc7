-- `simd::V128::i32x4_extract_lane` meets its contract. Assumes nothing.
use borrow.Author.Rules.{rules}
use mathlib.Core.Path.{ap, ◌∙◌}
use mir.Syntax.{w32}
use Rattle.standard.specs.Integer.{modulo}
use Rattle.standard.proofs.Access.{lane_taken}
use Rattle.lane_integer.proofs.Magnitude.{kept}
use Rattle.lane_integer.proofs.Signed.{modulo_signed}
use Rattle.simd.proofs.V128.i32x4_extract_lane.Goals as goal

pub returns : goal.returns
returns c = lane_taken 32 _ c.in_ok-lane_below.ensures.below
    (ap (modulo 32) (kept w32 c.signed.type_inv c.signed.ensures) ∙ modulo_signed w32 _ (search rules) ∙ c.lane.ensures)

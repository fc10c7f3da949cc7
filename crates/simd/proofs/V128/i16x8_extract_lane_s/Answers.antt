-- `simd::V128::i16x8_extract_lane_s` meets its contract. Assumes nothing.
use mathlib.Core.Path.{ap, ◌∙◌}
use mir.Syntax.{w32}
use Rattle.standard.specs.Integer.{signed, modulo}
use Rattle.standard.proofs.Access.{lane_taken}
use Rattle.lane_integer.proofs.Magnitude.{kept}
use Rattle.simd.proofs.V128.i16x8_extract_lane_s.Goals as goal

pub returns : goal.returns
returns c = lane_taken 16 _ c.in_ok-lane_below.ensures.below
    (ap (modulo 32) (kept w32 c.wide.type_inv (c.wide.ensures ∙ ap (signed 16) c.lane.ensures)))

-- `simd::V128::f64x2_extract_lane` meets its contract. Assumes nothing.
use Rattle.standard.proofs.Access.{lane_taken}
use mathlib.Core.Path.{◌∙◌}
use Rattle.simd.proofs.V128.f64x2_extract_lane.Goals as goal

pub returns : goal.returns
returns c = lane_taken 64 _ c.in_ok-lane_below.ensures.below (c.from_bits.ensures ∙ c.lane.ensures)

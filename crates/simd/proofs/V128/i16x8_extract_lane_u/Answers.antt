-- `simd::V128::i16x8_extract_lane_u` meets its contract. Assumes nothing.
use Rattle.standard.proofs.Access.{lane_taken}
use Rattle.simd.proofs.V128.i16x8_extract_lane_u.Goals as goal

pub returns : goal.returns
returns c = lane_taken 16 _ c.in_ok-lane_below.ensures.below c.lane.ensures

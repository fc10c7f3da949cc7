-- `u32::may_equal` meets the contract of `lane_float_value::Pattern`. Assumes nothing.
use lib.Ieee.{binary32}
use Rattle.lane_float_value.proofs.Together.{numbers, differ}
use Rattle.lane_float_value.proofs.U32Pattern.may_equal.Goals as goal

pub returns-clause-numbers : goal.returns-clause-numbers
returns-clause-numbers c = numbers binary32 _ _ c.is_number32.ensures

pub returns-clause-unequal : goal.returns-clause-unequal
returns-clause-unequal c = differ binary32 _ _ c.is_number32.ensures c.ranges.self.fits c.ranges.other.fits

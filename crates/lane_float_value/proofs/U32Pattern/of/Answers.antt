-- `u32::of` meets the contract of `lane_float_value::Pattern`. Assumes nothing.
use mathlib.Core.Path.{◌∙◌}
use lib.Ieee.{binary32}
use Rattle.lane_float_value.proofs.Itself.{same_number, written}
use Rattle.lane_float_value.proofs.U32Pattern.of.Goals as goal

pub float_to_bits-result : goal.float_to_bits-result
float_to_bits-result c = same_number _ c.if-x.true

pub returns-else-x : goal.returns-else-x
returns-else-x c = c.nan.ensures ∙ written binary32 _ c.if-x.false

-- `u64::nan` meets the contract of `lane_float_value::Pattern`. Assumes nothing.
use mathlib.Core.Path.{refl}
use lib.Ieee.{to_bits}
use Rattle.lane_float_value.proofs.U64Pattern.nan.Goals as goal

pub returns : goal.returns
unfolding to_bits
returns c = refl

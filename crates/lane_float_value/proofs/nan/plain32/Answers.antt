-- `lane_float_value::nan::plain32` meets its contract. Assumes nothing.
use mathlib.Core.Path.{sym}
use lib.Ieee.{binary32}
use lib.Ieee.Bits.{nan_bits_above}
use Rattle.lane_float_value.proofs.nan.plain32.Goals as goal

pub returns : goal.returns
returns c = sym (nan_bits_above binary32 _)

-- `lane_float_value::nan::carry64` meets its contract. Assumes nothing.
use Rattle.lane_float_value.proofs.Carry.{carries}
use Rattle.lane_float_value.proofs.nan.carry64.Goals as goal

pub returns : goal.returns
returns c = carries c.args.bits

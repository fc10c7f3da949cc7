-- `lane_float_value::nan::ordered32` meets its contract. Assumes nothing.
use Rattle.lane_float_value.proofs.nan.ordered32.Goals as goal

pub returns : goal.returns
returns c = rw (← c.plain32.ensures, ← c.signed32.ensures)

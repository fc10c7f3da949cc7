-- `lane_float_widen::convert_u64` meets its contract. Assumes nothing.
use lib.Ieee.{of_int}
use Rattle.lane_float_widen.proofs.convert_u64.Goals as goal

pub returns : goal.returns
unfolding of_int
returns c = c.quotient.ensures

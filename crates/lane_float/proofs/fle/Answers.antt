-- `lane_float::fle` meets its contract. With a NaN it is false, and two numbers are compared by the language. Assumes nothing.
use lib.Ieee
use Rattle.lane_float_value.proofs.FloatOrder.{with_nan, le_unordered}
use Rattle.lane_float.proofs.fle.Goals as goal

pub returns-else-ordered : goal.returns-else-ordered
returns-else-ordered g c = with_nan g.P.Pattern.format _ _ c.ordered.ensures Ieee.le le_unordered c.if-ordered.false

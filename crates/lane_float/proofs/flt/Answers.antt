-- `lane_float::flt` meets its contract. With a NaN it is false, and two numbers are compared by the language. Assumes nothing.
use lib.Ieee
use Rattle.lane_float_value.proofs.FloatOrder.{with_nan, lt_unordered}
use Rattle.lane_float.proofs.flt.Goals as goal

pub returns-else-ordered : goal.returns-else-ordered
returns-else-ordered g c = with_nan g.P.Pattern.format _ _ c.ordered.ensures Ieee.lt lt_unordered c.if-ordered.false

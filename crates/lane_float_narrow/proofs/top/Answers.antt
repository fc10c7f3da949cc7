-- `lane_float_narrow::top` meets its contract. Assumes nothing.
use Rattle.lane_float_narrow.proofs.Leading.{set_first}
use Rattle.lane_float_narrow.proofs.top.Goals as goal

pub overflow_sub-result : goal.overflow_sub-result
overflow_sub-result c = set_first c.args.n c.ranges.n.fits

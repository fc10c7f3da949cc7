-- `lane_integer::arithmetic::popcnt` meets its contract: the language's count of ones is the standard's. Assumes nothing.
use Rattle.std.proofs.Common.{arith}
use lib.Count.{ones-le}
use Rattle.lane_integer.proofs.Product.{counts}
use Rattle.lane_integer.proofs.arithmetic.popcnt.Goals as goal

pub overflow_cast-result : goal.overflow_cast-result
overflow_cast-result c = omega (arith, ones-le 8 _ c.ranges.x.fits)

pub returns : goal.returns
returns c = counts 8 _ c.ranges.x.fits

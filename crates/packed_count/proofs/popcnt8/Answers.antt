-- `packed_count::popcnt8` meets its contract, by the laws of packed counts at 8 lanes. Assumes nothing.
use Rattle.packed_half.specs.Half.{half_unary}
use Rattle.packed_half.proofs.Ones.{pairs_fit, four_counts_fit, counts_fit, counts_are}
use Rattle.packed_count.proofs.popcnt8.Goals as goal

pub returns : goal.returns
unfolding half_unary
returns c = counts_are 8 _ c.ranges.a.fits

pub overflow_sub-pairs : goal.overflow_sub-pairs
overflow_sub-pairs c = pairs_fit 8 _ c.ranges.a.fits

pub overflow_add-nibbles : goal.overflow_add-nibbles
overflow_add-nibbles c = record { fits = four_counts_fit 8 _ c.ranges.a.fits }

pub overflow_add-result : goal.overflow_add-result
overflow_add-result c = record { fits = counts_fit 8 _ c.ranges.a.fits }

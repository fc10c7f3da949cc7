-- `packed_sum::average::avgr_u` meets its contract, by the laws of packed averages. Assumes nothing.
use mathlib.Core.Path.{◌∙◌}
use Rattle.packed_half.specs.Half.{half_binary}
use Rattle.packed_half.proofs.Whole.{within}
use Rattle.packed_half.proofs.Mean.{mean_fits, mean_is}
use Rattle.packed_sum.proofs.average.avgr_u.Goals as goal

pub returns : goal.returns
unfolding half_binary
returns g c =
    let law = g.L.Lanes in
    let v = g.L.Lanes.LOW_BITS in
    rw (c.LOW.ensures ∙ law.low) (mean_is v _ _ _ (within v law.whole c.ranges.a.fits) (within v law.whole c.ranges.b.fits))

pub overflow_sub-result : goal.overflow_sub-result
overflow_sub-result g c =
    let law = g.L.Lanes in
    let v = g.L.Lanes.LOW_BITS in
    rw (c.LOW.ensures ∙ law.low) (mean_fits v _ _ _ (within v law.whole c.ranges.a.fits) (within v law.whole c.ranges.b.fits))

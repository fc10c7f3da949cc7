-- `packed_sum::arithmetic::sub` meets its contract, by the laws of packed differences. Assumes nothing.
use mathlib.Core.Path.{◌∙◌}
use Rattle.packed_half.specs.Half.{half_binary}
use Rattle.packed_half.proofs.Whole.{within}
use Rattle.packed_half.proofs.Sum.{difference_fits, difference_is}
use Rattle.packed_sum.proofs.arithmetic.sub.Goals as goal

pub returns : goal.returns
unfolding half_binary
returns g c =
    let law = g.L.Lanes in
    let v = g.L.Lanes.LOW_BITS in
    rw (c.LOW.ensures ∙ law.low, c.TOP.ensures ∙ law.top, c.TOP-2.ensures ∙ law.top, law.full)
    (difference_is v _ _ _ (within v law.whole c.ranges.a.fits) (within v law.whole c.ranges.b.fits))

pub overflow_sub-result : goal.overflow_sub-result
overflow_sub-result g c =
    let law = g.L.Lanes in
    let v = g.L.Lanes.LOW_BITS in
    rw (c.LOW.ensures ∙ law.low, c.TOP.ensures ∙ law.top)
    (difference_fits v _ _ _ (within v law.whole c.ranges.a.fits) (within v law.whole c.ranges.b.fits))

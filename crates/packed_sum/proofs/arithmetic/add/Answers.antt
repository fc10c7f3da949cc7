-- `packed_sum::arithmetic::add` meets its contract, by the laws of packed sums. Assumes nothing.
use mathlib.Core.Path.{◌∙◌}
use Rattle.packed_half.specs.Half.{half_binary}
use Rattle.packed_half.proofs.Whole.{within, without}
use Rattle.packed_half.proofs.Sum.{sum_fits, sum_is}
use Rattle.packed_sum.proofs.arithmetic.add.Goals as goal

pub returns : goal.returns
unfolding half_binary
returns g c =
    let law = g.L.Lanes in
    let v = g.L.Lanes.LOW_BITS in
    rw (c.LOW.ensures ∙ law.low, c.LOW-2.ensures ∙ law.low, c.TOP.ensures ∙ law.top)
    (sum_is v _ _ _ (within v law.whole c.ranges.a.fits) (within v law.whole c.ranges.b.fits))

pub overflow_add-result : goal.overflow_add-result
overflow_add-result g c =
    let law = g.L.Lanes in
    let v = g.L.Lanes.LOW_BITS in
    rw (c.LOW.ensures ∙ law.low, c.LOW-2.ensures ∙ law.low)
    (record { fits = without v law.whole (sum_fits v _ _ _ (within v law.whole c.ranges.a.fits) (within v law.whole c.ranges.b.fits)) })

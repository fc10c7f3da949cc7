-- `packed_compare::zeros` meets its contract, by the laws of zero lanes. Assumes nothing.
use mathlib.Core.Path.{◌∙◌}
use Rattle.packed_half.specs.Half.{half_unary}
use Rattle.packed_half.proofs.Whole.{within, without}
use Rattle.packed_half.proofs.Zero.{zeros_fit, zeros_are, flags}
use Rattle.packed_compare.proofs.zeros.Goals as goal

pub returns : goal.returns
unfolding half_unary
returns g c =
    let law = g.L.Lanes in
    let v = g.L.Lanes.LOW_BITS in
    rw (c.LOW.ensures ∙ law.low, c.LOW-2.ensures ∙ law.low, c.TOP.ensures ∙ law.top, c.TOP-2.ensures ∙ law.top)
    (zeros_are v _ _ (within v law.whole c.ranges.a.fits) ∙ flags v _ _)

pub overflow_add-result : goal.overflow_add-result
overflow_add-result g c =
    let law = g.L.Lanes in
    let v = g.L.Lanes.LOW_BITS in
    rw (c.LOW.ensures ∙ law.low, c.LOW-2.ensures ∙ law.low)
    (record { fits = without v law.whole (zeros_fit v _ _ (within v law.whole c.ranges.a.fits)) })

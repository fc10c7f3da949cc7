-- `packed_compare::eq` meets its contract, by the laws of zero lanes. Assumes nothing.
use mathlib.Core.Path.{sym, ◌∙◌}
use Rattle.packed_half.specs.Half.{half_unary, half_binary}
use Rattle.packed_half.proofs.Whole.{within, without}
use Rattle.packed_half.proofs.Zero.{equal_fits, equal_is, flags}
use Rattle.packed_compare.proofs.eq.Goals as goal

pub returns : goal.returns
unfolding half_unary half_binary
returns g c =
    let law = g.L.Lanes in
    let v = g.L.Lanes.LOW_BITS in
    rw (c.LOW_BITS.ensures, c.ALL.ensures ∙ law.all)
    (equal_is v _ _ _ _ (within v law.whole c.ranges.a.fits) (within v law.whole c.ranges.b.fits) (c.zeros.ensures ∙ sym (flags v _ _)))

pub overflow_mul-result : goal.overflow_mul-result
unfolding half_unary
overflow_mul-result g c =
    let law = g.L.Lanes in
    let v = g.L.Lanes.LOW_BITS in
    rw (c.LOW_BITS.ensures, c.ALL.ensures ∙ law.all)
    (record { fits = without v law.whole (equal_fits v _ _ _ _ (within v law.whole c.ranges.a.fits) (within v law.whole c.ranges.b.fits) (c.zeros.ensures ∙ sym (flags v _ _))) })

-- `packed_shift::shl` meets its contract, by the laws of packed shifts to the left. Assumes nothing.
use mathlib.Core.Path.{◌∙◌}
use Rattle.std.proofs.Common.{arith, ◌+◌}
use Rattle.packed_half.specs.Half.{half_unary}
use Rattle.packed_half.proofs.Whole.{within, without}
use Rattle.packed_half.proofs.Shifts.{keep_fits, left_half}
use Rattle.packed_shift.proofs.shl.Goals as goal

pub returns : goal.returns
unfolding half_unary
returns g c =
    let law = g.L.Lanes in
    let v = g.L.Lanes.LOW_BITS in
    rw (c.LOW_BITS.ensures, c.ONE.ensures ∙ law.one, c.ALL.ensures ∙ law.all)
    (left_half v _ _ law.whole (within v law.whole c.ranges.a.fits))

pub overflow_mul-result : goal.overflow_mul-result
overflow_mul-result g c =
    let law = g.L.Lanes in
    let v = g.L.Lanes.LOW_BITS in
    rw (c.LOW_BITS.ensures, c.ONE.ensures ∙ law.one, c.ALL.ensures ∙ law.all)
    (record { fits = without v law.whole (keep_fits (1 + v) _ _ (omega arith)) })

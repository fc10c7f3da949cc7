-- `lane_float_least::fmax` meets its contract. Assumes nothing.
use mathlib.Core.Path.{ap, ap₂, subst, ◌∙◌}
use Prim.Native.Nat.{ℕ, ◌-◌, ◌*◌, ◌<◌}
use lib.Bits.{bit_or, bit_and}
use lib.Ieee.{top, lt}
use Rattle.lane_float_least.proofs.Extremes.{greatest, one_of}
use Rattle.lane_float_least.proofs.fmax.Goals as goal

pub returns-then-ordered : goal.returns-then-ordered
returns-then-ordered g c =
    let p = g.P.Pattern in
    let laws = g.met.P.Pattern in
    let b = c.to_u64-then-ordered.ensures in
    one_of p.bits c.args.b c.from_u64-first.result c.pick.ensures
    (c.less.ensures ∙ ap₂ lt c.number.ensures c.number-then-ordered.ensures)
    (c.from_u64-first.ensures ∙ ap₂ bit_and c.to_u64.ensures.same (ap₂ bit_or b.same (ap (λ (n : ℕ). n - 1) (c.SIGN.ensures ∙ laws.sign_is))))
    ∙ greatest p.format _ _ c.ordered.ensures (subst (λ (n : ℕ). n < 2 * top p.format) c.to_u64.ensures.same c.to_u64.ensures.fits)
    (subst (λ (n : ℕ). n < 2 * top p.format) b.same b.fits) c.if-ordered.true

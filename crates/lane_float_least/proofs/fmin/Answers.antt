-- `lane_float_least::fmin` meets its contract. Assumes nothing.
use mathlib.Core.Path.{ap₂, sym, subst, ◌∙◌}
use Prim.Native.Nat.{ℕ, ◌*◌, ◌<◌}
use lib.Bits.{bit_or}
use lib.Ieee.{top, lt}
use Rattle.lane_float_least.proofs.Extremes.{least, one_of, sign_fits}
use Rattle.lane_float_least.proofs.fmin.Goals as goal

pub from_u64-first-requires : goal.from_u64-first-requires
from_u64-first-requires g c =
    let f = g.P.Pattern.format in
    subst (λ (s : ℕ). bit_or c.to_u64.result s < 2 * top f) (sym c.sign.ensures.sign) (sign_fits f _ _ c.to_u64.ensures.fits)

pub returns-then-ordered : goal.returns-then-ordered
returns-then-ordered g c =
    let p = g.P.Pattern in
    one_of p.bits c.args.b c.from_u64-first.result c.pick.ensures
    (c.less.ensures ∙ ap₂ lt c.number.ensures c.number-then-ordered.ensures)
    (c.from_u64-first.ensures ∙ ap₂ bit_or c.to_u64.ensures.same c.sign.ensures.sign)
    ∙ least p.format _ _ c.ordered.ensures (subst (λ (n : ℕ). n < 2 * top p.format) c.to_u64.ensures.same c.to_u64.ensures.fits) c.sign.ensures.fits
    c.if-ordered.true

-- `lane_float::fneg` meets its contract. Assumes nothing.
use mathlib.Core.Path.{◌∙◌}
use Rattle.lane_float.proofs.Sign.{turned, turned_fits}
use Rattle.lane_float.proofs.fneg.Goals as goal

pub from_u64-requires : goal.from_u64-requires
from_u64-requires g c =
    rw (c.to_u64.ensures.same, c.SIGN.ensures, g.met.P.Pattern.sign_is)
    (turned_fits g.P.Pattern.format _ (rw c.to_u64.ensures.same at c.to_u64.ensures.fits))

pub returns : goal.returns
returns g c =
    (rw (c.to_u64.ensures.same, c.SIGN.ensures ∙ g.met.P.Pattern.sign_is) at c.from_u64.ensures)
    ∙ turned g.P.Pattern.format _ (rw c.to_u64.ensures.same at c.to_u64.ensures.fits)

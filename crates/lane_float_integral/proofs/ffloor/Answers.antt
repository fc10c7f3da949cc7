-- `lane_float_integral::ffloor` meets its contract. Assumes nothing.
use mathlib.Core.Path.{◌∙◌}
use Rattle.lane_float_pattern.proofs.ToWhole.{downward_is}
use Rattle.lane_float_integral.proofs.ffloor.Goals as goal

pub returns : goal.returns
returns g c = (rw (c.to_u64.ensures.same, c.SIGN.ensures ∙ g.met.P.Pattern.sign_is) at c.integral.ensures) ∙ downward_is g.P.Pattern.format _

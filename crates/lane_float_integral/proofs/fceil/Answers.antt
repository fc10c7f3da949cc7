-- `lane_float_integral::fceil` meets its contract. Assumes nothing.
use mathlib.Core.Path.{◌∙◌}
use Rattle.lane_float_pattern.proofs.ToWhole.{upward_is}
use Rattle.lane_float_integral.proofs.fceil.Goals as goal

pub returns : goal.returns
returns g c = (rw (c.to_u64.ensures.same, c.SIGN.ensures ∙ g.met.P.Pattern.sign_is) at c.integral.ensures) ∙ upward_is g.P.Pattern.format _

-- `array_lanewise_float::ne` meets its contract. Assumes nothing.
use mathlib.Core.Path.{sym, ap, ◌∙◌}
use mathlib.Core.Bool.{not}
use Rattle.standard.specs.Float.{width}
use Rattle.standard.specs.Integer.{truth}
use Rattle.lane_float_value.proofs.FloatOrder.{ne_is}
use Rattle.array_lanewise_float.proofs.ne.Goals as goal

pub returns : goal.returns
returns g c = c.truth.ensures ∙ ap (truth (width g.P.Pattern.format)) (ap not c.feq.ensures ∙ sym (ne_is _ _))

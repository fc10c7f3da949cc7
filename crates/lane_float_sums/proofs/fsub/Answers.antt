-- `lane_float_sums::fsub` meets its contract. Assumes nothing.
use mathlib.Core.Path.{◌∙◌}
use lib.Ieee.{sub}
use Rattle.lane_float_sums.proofs.Absorb.{absorbed, sub_absorbs}
use Rattle.lane_float_sums.proofs.fsub.Goals as goal

pub returns-else-ordered : goal.returns-else-ordered
returns-else-ordered g c =
    let f = g.P.Pattern.format in
    c.nan.ensures ∙ absorbed f _ _ c.ordered.ensures (sub f) (sub_absorbs f) c.if-ordered.false

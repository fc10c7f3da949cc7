-- `lane_float_sums::fadd` meets its contract. Assumes nothing.
use mathlib.Core.Path.{◌∙◌}
use lib.Ieee.{add}
use Rattle.lane_float_sums.proofs.Absorb.{absorbed, add_absorbs}
use Rattle.lane_float_sums.proofs.fadd.Goals as goal

pub returns-else-ordered : goal.returns-else-ordered
returns-else-ordered g c =
    let f = g.P.Pattern.format in
    c.nan.ensures ∙ absorbed f _ _ c.ordered.ensures (add f) (add_absorbs f) c.if-ordered.false

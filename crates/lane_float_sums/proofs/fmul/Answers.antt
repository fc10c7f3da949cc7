-- `lane_float_sums::fmul` meets its contract. Assumes nothing.
use mathlib.Core.Path.{◌∙◌}
use lib.Ieee.{mul}
use Rattle.lane_float_sums.proofs.Absorb.{absorbed, mul_absorbs}
use Rattle.lane_float_sums.proofs.fmul.Goals as goal

pub returns-else-ordered : goal.returns-else-ordered
returns-else-ordered g c =
    let f = g.P.Pattern.format in
    c.nan.ensures ∙ absorbed f _ _ c.ordered.ensures (mul f) (mul_absorbs f) c.if-ordered.false

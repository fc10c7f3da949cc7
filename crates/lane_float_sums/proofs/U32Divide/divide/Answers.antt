-- `u32::divide` meets the contract of `lane_float_sums::Divide`. Assumes nothing.
use mathlib.Core.Path.{◌∙◌}
use lib.Ieee.{binary32, div}
use Rattle.lane_float_sums.proofs.Absorb.{absorbed, div_absorbs}
use Rattle.lane_float_sums.proofs.U32Divide.divide.Goals as goal

pub returns-else-ordered : goal.returns-else-ordered
returns-else-ordered c = c.nan.ensures ∙ absorbed binary32 _ _ c.ordered.ensures (div binary32) (div_absorbs binary32) c.if-ordered.false

-- `<u8 as Lanes>::splat` meets its contract. Assumes nothing.
use mathlib.Core.Path.{◌∙◌}
use Rattle.standard.proofs.Access.{splat_is}
use Rattle.simd.proofs.lanes.U8Lanes.splat.Goals as goal

pub returns : goal.returns
returns c = c.join8.ensures ∙ splat_is 8 _

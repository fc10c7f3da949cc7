-- `<u32 as Lanes>::splat` meets its contract. Assumes nothing.
use mathlib.Core.Path.{◌∙◌}
use Rattle.standard.proofs.Access.{splat_is}
use Rattle.simd.proofs.lanes.U32Lanes.splat.Goals as goal

pub returns : goal.returns
returns c = c.join32.ensures ∙ splat_is 32 _

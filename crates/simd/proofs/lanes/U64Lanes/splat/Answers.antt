-- `<u64 as Lanes>::splat` meets its contract. Assumes nothing.
use Rattle.standard.proofs.Access.{splat_64}
use Rattle.simd.proofs.lanes.U64Lanes.splat.Goals as goal

pub returns : goal.returns
returns c = splat_64 _

-- `simd::V128::i64x2_splat` meets its contract. Assumes nothing.
use mir.Facts.{to_z-of_z}
use Rattle.simd.proofs.V128.i64x2_splat.Goals as goal

pub returns : goal.returns
returns c = rw (← to_z-of_z c.ranges.value, ← c.of_signed.ensures) c.splat.ensures

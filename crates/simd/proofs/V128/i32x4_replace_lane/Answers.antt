-- `simd::V128::i32x4_replace_lane` meets its contract. Assumes nothing.
use mir.Facts.{to_z-of_z}
use Rattle.simd.proofs.V128.i32x4_replace_lane.Goals as goal

pub returns : goal.returns
returns c = rw (← to_z-of_z c.ranges.item, ← c.of_signed.ensures) c.replace.ensures

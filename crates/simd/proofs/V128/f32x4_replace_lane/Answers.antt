-- `simd::V128::f32x4_replace_lane` meets its contract. Assumes nothing.

use Rattle.simd.proofs.V128.f32x4_replace_lane.Goals as goal

pub returns : goal.returns
returns c = rw (← c.to_bits.ensures) c.replace.ensures

pub to_bits-requires : goal.to_bits-requires
to_bits-requires c = tt

pub replace-requires : goal.replace-requires
replace-requires c = tt

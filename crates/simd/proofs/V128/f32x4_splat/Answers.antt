-- `simd::V128::f32x4_splat` meets its contract. Assumes nothing.

use Rattle.simd.proofs.V128.f32x4_splat.Goals as goal

pub returns : goal.returns
returns c = rw (← c.to_bits.ensures) c.splat.ensures

pub to_bits-requires : goal.to_bits-requires
to_bits-requires c = tt

pub splat-requires : goal.splat-requires
splat-requires c = tt

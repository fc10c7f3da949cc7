-- `simd::V128::i32x4_relaxed_dot_i8x16_i7x16_add_s` meets its contract. Assumes nothing.
use mathlib.Core.Path.{refl, ap, ap₂, ◌∙◌}
use Rattle.standard.specs.Lanes.{binary}
use Rattle.standard.specs.Integer.{iadd, extend_s}
use Rattle.standard.specs.Vector.{extadd_pairwise}
use Rattle.simd.proofs.V128.i32x4_relaxed_dot_i8x16_i7x16_add_s.Goals as goal

pub returns : goal.returns
returns c =
    c.i32x4_add.ensures
    ∙ ap₂ (binary 32 (iadd 32))
    (c.i32x4_extadd_pairwise_i16x8_s-ext.ensures ∙ ap (extadd_pairwise extend_s 16) c.i16x8_relaxed_dot_i8x16_i7x16_s-dot.ensures) refl

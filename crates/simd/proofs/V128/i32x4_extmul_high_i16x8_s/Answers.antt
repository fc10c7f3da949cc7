-- `simd::V128::i32x4_extmul_high_i16x8_s` meets its contract. Assumes nothing.
use borrow.Author.Rules.{rules}
use mathlib.Core.Path.{refl}
use Rattle.standard.specs.Integer.{extend_s}
use Rattle.standard.proofs.Widths.{extend_s_lt}
use Rattle.simd.proofs.Extended.{extmul_high}
use Rattle.simd.proofs.V128.i32x4_extmul_high_i16x8_s.Goals as goal

pub returns : goal.returns
returns c =
    extmul_high 16 4 refl refl extend_s (extend_s_lt 16) refl refl c.args.self c.args.rhs (search rules) (search rules)
    c.i32x4_extend_high_i16x8_s.ensures c.i32x4_extend_high_i16x8_s-2.ensures c.i32x4_mul.ensures

-- `simd::V128::i64x2_extmul_high_i32x4_s` meets its contract. Assumes nothing.
use borrow.Author.Rules.{rules}
use mathlib.Core.Path.{refl}
use Rattle.standard.specs.Integer.{extend_s}
use Rattle.standard.proofs.Widths.{extend_s_lt}
use Rattle.simd.proofs.Extended.{extmul_high}
use Rattle.simd.proofs.V128.i64x2_extmul_high_i32x4_s.Goals as goal

pub returns : goal.returns
returns c =
    extmul_high 32 2 refl refl extend_s (extend_s_lt 32) refl refl c.args.self c.args.rhs (search rules) (search rules)
    c.i64x2_extend_high_i32x4_s.ensures c.i64x2_extend_high_i32x4_s-2.ensures c.i64x2_mul.ensures

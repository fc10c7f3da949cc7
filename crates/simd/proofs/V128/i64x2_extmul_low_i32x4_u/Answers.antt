-- `simd::V128::i64x2_extmul_low_i32x4_u` meets its contract. Assumes nothing.
use borrow.Author.Rules.{rules}
use mathlib.Core.Path.{refl}
use Rattle.standard.specs.Integer.{extend_u}
use Rattle.standard.proofs.Widths.{extend_u_lt}
use Rattle.simd.proofs.Extended.{extmul_low}
use Rattle.simd.proofs.V128.i64x2_extmul_low_i32x4_u.Goals as goal

pub returns : goal.returns
returns c =
    extmul_low 32 2 refl refl extend_u (extend_u_lt 32) refl refl c.args.self c.args.rhs (search rules) (search rules)
    c.i64x2_extend_low_i32x4_u.ensures c.i64x2_extend_low_i32x4_u-2.ensures c.i64x2_mul.ensures

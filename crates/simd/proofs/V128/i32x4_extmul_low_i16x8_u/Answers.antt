-- `simd::V128::i32x4_extmul_low_i16x8_u` meets its contract. Assumes nothing.
use borrow.Author.Rules.{rules}
use mathlib.Core.Path.{refl}
use Rattle.standard.specs.Integer.{extend_u}
use Rattle.standard.proofs.Widths.{extend_u_lt}
use Rattle.simd.proofs.Extended.{extmul_low}
use Rattle.simd.proofs.V128.i32x4_extmul_low_i16x8_u.Goals as goal

pub returns : goal.returns
returns c =
    extmul_low 16 4 refl refl extend_u (extend_u_lt 16) refl refl c.args.self c.args.rhs (search rules) (search rules)
    c.i32x4_extend_low_i16x8_u.ensures c.i32x4_extend_low_i16x8_u-2.ensures c.i32x4_mul.ensures

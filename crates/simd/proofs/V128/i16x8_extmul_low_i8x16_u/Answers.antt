-- `simd::V128::i16x8_extmul_low_i8x16_u` meets its contract. Assumes nothing.
use borrow.Author.Rules.{rules}
use mathlib.Core.Path.{refl}
use Rattle.standard.specs.Integer.{extend_u}
use Rattle.standard.proofs.Widths.{extend_u_lt}
use Rattle.simd.proofs.Extended.{extmul_low}
use Rattle.simd.proofs.V128.i16x8_extmul_low_i8x16_u.Goals as goal

pub returns : goal.returns
returns c =
    extmul_low 8 8 refl refl extend_u (extend_u_lt 8) refl refl c.args.self c.args.rhs (search rules) (search rules)
    c.i16x8_extend_low_i8x16_u.ensures c.i16x8_extend_low_i8x16_u-2.ensures c.i16x8_mul.ensures

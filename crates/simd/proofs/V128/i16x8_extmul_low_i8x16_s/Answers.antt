-- `simd::V128::i16x8_extmul_low_i8x16_s` meets its contract. Assumes nothing.
use borrow.Author.Rules.{rules}
use mathlib.Core.Path.{refl}
use Rattle.standard.specs.Integer.{extend_s}
use Rattle.standard.proofs.Widths.{extend_s_lt}
use Rattle.simd.proofs.Extended.{extmul_low}
use Rattle.simd.proofs.V128.i16x8_extmul_low_i8x16_s.Goals as goal

pub returns : goal.returns
returns c =
    extmul_low 8 8 refl refl extend_s (extend_s_lt 8) refl refl c.args.self c.args.rhs (search rules) (search rules)
    c.i16x8_extend_low_i8x16_s.ensures c.i16x8_extend_low_i8x16_s-2.ensures c.i16x8_mul.ensures

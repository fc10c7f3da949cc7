-- `simd::V128::v128_xor` meets its contract. Assumes nothing.
use borrow.Author.Rules.{rules}
use Rattle.standard.proofs.Bitwise.{bitwise_halves, xor_bits}
use Rattle.simd.proofs.V128.v128_xor.Goals as goal

pub returns : goal.returns
returns c = bitwise_halves _ _ _ _ _ (search rules) (search rules) (xor_bits 64 _ _ (search rules) (search rules))
    (xor_bits 64 _ _ (search rules) (search rules))

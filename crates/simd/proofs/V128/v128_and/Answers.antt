-- `simd::V128::v128_and` meets its contract. Assumes nothing.
use borrow.Author.Rules.{rules}
use Rattle.standard.proofs.Bitwise.{bitwise_halves, and_bits}
use Rattle.simd.proofs.V128.v128_and.Goals as goal

pub returns : goal.returns
returns c = bitwise_halves _ _ _ _ _ (search rules) (search rules) (and_bits 64 _ _ (search rules) (search rules))
    (and_bits 64 _ _ (search rules) (search rules))

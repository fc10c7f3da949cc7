-- `simd::V128::v128_or` meets its contract. Assumes nothing.
use borrow.Author.Rules.{rules}
use Rattle.standard.proofs.Bitwise.{bitwise_halves, or_bits}
use Rattle.simd.proofs.V128.v128_or.Goals as goal

pub returns : goal.returns
returns c = bitwise_halves _ _ _ _ _ (search rules) (search rules) (or_bits 64 _ _ (search rules) (search rules)) (or_bits 64 _ _ (search rules) (search rules))

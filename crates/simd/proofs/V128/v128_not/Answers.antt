-- `simd::V128::v128_not` meets its contract. Assumes nothing.
use borrow.Author.Rules.{rules}
use Rattle.standard.proofs.Bitwise.{not_halves}
use Rattle.simd.proofs.V128.v128_not.Goals as goal

pub returns : goal.returns
returns c = not_halves _ _ (search rules) (search rules)

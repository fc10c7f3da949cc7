-- `simd::V128::i64x2_all_true` meets its contract. Assumes nothing.
use borrow.Author.Rules.{rules}
use Rattle.standard.proofs.Reduce.{all_true_64}
use Rattle.simd.proofs.V128.i64x2_all_true.Goals as goal

pub returns : goal.returns
returns c = all_true_64 _ _ (search rules) (search rules)

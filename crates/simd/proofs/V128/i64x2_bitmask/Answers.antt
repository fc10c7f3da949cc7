-- `simd::V128::i64x2_bitmask` meets its contract. Assumes nothing.
use borrow.Author.Rules.{rules}
use Rattle.standard.proofs.Reduce.{bitmask_64}
use Rattle.simd.proofs.V128.i64x2_bitmask.Goals as goal

pub returns : goal.returns
returns c = bitmask_64 _ _ (search rules) (search rules) (search (rules, c.sign.ensures)) (search (rules, c.sign-2.ensures))

-- `simd::V128::i8x16_all_true` meets its contract. Assumes nothing.
use lib.Dec.{lit<}
use Rattle.standard.proofs.Reduce.{all_true_is}
use Rattle.simd.proofs.V128.i8x16_all_true.Goals as goal

pub returns : goal.returns
returns c = all_true_is 8 (lit< tt) _ c.v128_any_true.result c.i8x16_eq.ensures c.v128_any_true.ensures

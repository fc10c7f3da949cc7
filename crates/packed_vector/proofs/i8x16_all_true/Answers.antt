-- `packed_vector::i8x16_all_true` meets its contract. Assumes nothing.
use borrow.Author.Rules.{rules}
use mathlib.Core.Path.{refl}
use Rattle.packed_vector.proofs.Both.{both_all_true}
use Rattle.packed_vector.proofs.i8x16_all_true.Goals as goal

pub returns : goal.returns
returns c = both_all_true 8 (refl, refl) c.args.a (search rules) c.all_true.result c.all_true-2.result
    c.all_true.ensures c.all_true-2.ensures

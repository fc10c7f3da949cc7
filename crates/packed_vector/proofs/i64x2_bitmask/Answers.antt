-- `packed_vector::i64x2_bitmask` meets its contract. Assumes nothing.
use borrow.Author.Rules.{rules}
use mathlib.Core.Path.{refl}
use lib.Dec.{lit≤}
use Rattle.packed_vector.proofs.Both.{both_bitmask}
use Rattle.packed_vector.proofs.i64x2_bitmask.Goals as goal

pub returns : goal.returns
returns c = both_bitmask 64 (refl, refl) (lit≤ tt) c.args.a (search rules) c.bitmask64.ensures c.bitmask64-2.ensures

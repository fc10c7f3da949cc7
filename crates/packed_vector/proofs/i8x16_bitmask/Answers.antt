-- `packed_vector::i8x16_bitmask` meets its contract. Assumes nothing.
use borrow.Author.Rules.{rules}
use mathlib.Core.Path.{refl}
use lib.Dec.{lit≤}
use Rattle.packed_vector.proofs.Both.{both_bitmask}
use Rattle.packed_vector.proofs.i8x16_bitmask.Goals as goal

pub returns : goal.returns
returns c = both_bitmask 8 (refl, refl) (lit≤ tt) c.args.a (search rules) c.bitmask8.ensures c.bitmask8-2.ensures

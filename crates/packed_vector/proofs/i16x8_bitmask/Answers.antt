-- `packed_vector::i16x8_bitmask` meets its contract. Assumes nothing.
use borrow.Author.Rules.{rules}
use mathlib.Core.Path.{refl}
use lib.Dec.{lit≤}
use Rattle.packed_vector.proofs.Both.{both_bitmask}
use Rattle.packed_vector.proofs.i16x8_bitmask.Goals as goal

pub returns : goal.returns
returns c = both_bitmask 16 (refl, refl) (lit≤ tt) c.args.a (search rules) c.bitmask16.ensures c.bitmask16-2.ensures

-- `packed_vector::i32x4_bitmask` meets its contract. Assumes nothing.
use borrow.Author.Rules.{rules}
use mathlib.Core.Path.{refl}
use lib.Dec.{lit≤}
use Rattle.packed_vector.proofs.Both.{both_bitmask}
use Rattle.packed_vector.proofs.i32x4_bitmask.Goals as goal

pub returns : goal.returns
returns c = both_bitmask 32 (refl, refl) (lit≤ tt) c.args.a (search rules) c.bitmask32.ensures c.bitmask32-2.ensures

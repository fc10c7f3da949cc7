-- `packed_vector::both_unary` meets its contract. Assumes nothing.
use borrow.Author.Rules.{rules}
use Rattle.packed_vector.proofs.Both.{both_unary}
use Rattle.packed_vector.proofs.both_unary.Goals as goal

pub returns : goal.returns
returns g c = λ w h d each. both_unary w d c.args.a (search rules) h (each _ _ (search rules) c.f.ensures) (each _ _ (search rules) c.f-2.ensures)

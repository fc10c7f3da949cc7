-- `packed_vector::both_binary` meets its contract. Assumes nothing.
use borrow.Author.Rules.{rules}
use Rattle.packed_vector.proofs.Both.{both_binary}
use Rattle.packed_vector.proofs.both_binary.Goals as goal

pub returns : goal.returns
returns g c =
    λ w h d each. both_binary w d c.args.a (search rules) h c.args.b (search rules)
    (each _ _ _ (search rules) (search rules) c.f.ensures) (each _ _ _ (search rules) (search rules) c.f-2.ensures)

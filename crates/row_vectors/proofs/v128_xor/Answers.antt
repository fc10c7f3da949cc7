-- `row_vectors::v128_xor` meets its contract. Assumes nothing.
use Rattle.standard.specs.Integer.{ixor}
use borrow.Author.Rules.{rules}
use Rattle.row_vectors.proofs.v128_xor.Goals as goal

pub returns : goal.returns
returns c = c.combine.ensures (ixor 128) (λ a b r met. search rules)

-- `row_vectors::i8x16_add` meets its contract. Assumes nothing.
use Rattle.standard.specs.Integer.{iadd}
use Rattle.standard.specs.Lanes.{binary}
use borrow.Author.Rules.{rules}
use Rattle.row_vectors.proofs.i8x16_add.Goals as goal

pub returns : goal.returns
returns c = c.combine.ensures (binary 8 (iadd 8)) (λ a b r met. search rules)

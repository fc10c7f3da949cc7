-- `chain::indices_of` meets its contract. Assumes nothing.
use Rattle.chain.proofs.Lists.{elements_drop}
use borrow.Author.Rules.{rules}
use Rattle.chain.proofs.indices_of.Goals as goal

pub returns : goal.returns
returns c = elements_drop c.args.link 16 (search rules)

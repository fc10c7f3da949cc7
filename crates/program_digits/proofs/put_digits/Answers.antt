-- `program_digits::put_digits` meets its contract. Assumes nothing.
use borrow.Author.Rules.{rules}
use Rattle.program_digits.proofs.Laws.{last_part}
use Rattle.program_digits.proofs.Puts.{said_as}
use Rattle.program_digits.proofs.put_digits.Goals as goal

pub returns : goal.returns
returns c =
    let spelt = c.spell-text.ensures in
    said_as (last_part c.args.base c.args.k c.args.n _ (search rules) spelt) c.put.ensures

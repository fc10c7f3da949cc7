-- `program_digits::put_number` meets its contract. Assumes nothing.
use borrow.Author.Rules.{rules}
use Rattle.program_digits.proofs.Puts.{then}
use Rattle.program_digits.proofs.put_number.Goals as goal

pub returns : goal.returns
returns c = search (rules, then)

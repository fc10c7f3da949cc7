-- `program_listing::put_wide` meets its contract. Assumes nothing.
use borrow.Author.Rules.{rules}
use Rattle.program_digits.specs.Codes.{codes}
use Rattle.program_digits.proofs.Puts.{then}
use Rattle.program_listing.proofs.put_wide.Goals as goal

pub returns : goal.returns
unfolding codes
returns c = search (rules, then)

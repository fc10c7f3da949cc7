-- `program_reports::fold` meets its contract. Assumes nothing.
use borrow.Author.Rules.{rules}
use Rattle.program_digits.specs.Codes.{codes}
use Rattle.program_digits.proofs.Puts.{then, filled}
use Rattle.program_reports.specs.Lines.{fold}
use Rattle.program_reports.proofs.Lengths.{fold_length}
use Rattle.program_reports.proofs.fold.Goals as goal

pub returns : goal.returns
unfolding fold codes
returns c = filled (fold_length c.args.refused c.args.indices
    (search rules)) (search rules) (search (rules, then))

-- `program_reports::marker` meets its contract. Assumes nothing.
use borrow.Author.Rules.{rules}
use Rattle.finder_windows.specs.Answer.{answer_of}
use Rattle.program_digits.specs.Codes.{codes}
use Rattle.program_digits.proofs.Puts.{then, filled}
use Rattle.program_reports.specs.Lines.{marker}
use Rattle.program_reports.proofs.Lengths.{marker_length}
use Rattle.program_reports.proofs.marker.Goals as goal

pub returns-in-Ok : goal.returns-in-Ok
unfolding marker codes
returns-in-Ok c =
    filled (marker_length (answer_of c.args.answer)) (search rules) (rw c.in-Ok.is (search (rules, then)))

pub returns-in-Err : goal.returns-in-Err
unfolding marker codes
returns-in-Err c =
    filled (marker_length (answer_of c.args.answer)) (search rules) (rw c.in-Err.is (search (rules, then)))

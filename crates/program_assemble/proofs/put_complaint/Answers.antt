-- `program_assemble::put_complaint` meets its contract, part by part. Assumes nothing.
use Rattle.program_digits.specs.Codes.{codes}
use Rattle.program_digits.proofs.Puts.{then}
use Rattle.program_assemble.specs.Text.{complaint}
use Rattle.program_assemble.proofs.put_complaint.Goals as goal

pub returns : goal.returns
unfolding complaint codes
returns c =
    then c.put_number-numbered.ensures (then c.put-colon.ensures
    (then c.put_reason-reasoned.ensures c.put.ensures))

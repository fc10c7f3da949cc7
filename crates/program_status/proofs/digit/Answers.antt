-- `program_status::digit` meets its contract. Assumes nothing.
use Rattle.program_digits.specs.Codes.{codes}
use Rattle.program_status.proofs.digit.Goals as goal

pub returns-then-good : goal.returns-then-good
unfolding codes
returns-then-good c = rw c.if-good.true

pub returns-else-good : goal.returns-else-good
unfolding codes
returns-else-good c = rw c.if-good.false

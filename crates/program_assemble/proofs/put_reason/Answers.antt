-- `program_assemble::put_reason` meets its contract. Assumes nothing.
use Rattle.program_digits.specs.Codes.{codes}
use Rattle.program_words.specs.Cut.{pieces}
use Rattle.program_assemble.specs.Text.{reasons, why}
use Rattle.program_assemble.proofs.put_reason.Goals as goal

pub returns : goal.returns
unfolding why reasons codes pieces
returns c = rw (← c.from.ensures) c.put_line.ensures

-- `program_step::put_whole` meets its contract. Assumes nothing.
use Rattle.program_digits.proofs.Puts.{then}
use Rattle.program_digits.specs.Codes.{codes}
use Rattle.program_step.specs.Shown.{whole}
use Rattle.program_step.proofs.put_whole.Goals as goal

pub returns : goal.returns
unfolding whole codes
returns c = then c.put-next.ensures c.put_fields.ensures

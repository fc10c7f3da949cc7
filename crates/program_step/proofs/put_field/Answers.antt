-- `program_step::put_field` meets its contract, by the kind of the field. Assumes nothing.
use Rattle.program_digits.specs.Codes.{codes}
use Rattle.program_step.specs.Shown.{field}
use Rattle.program_step.proofs.put_field.Goals as goal

pub returns-in-Register : goal.returns-in-Register
unfolding field codes
returns-in-Register c = rw c.in-Register.is c.put_number.ensures

pub returns-in-Lane : goal.returns-in-Lane
unfolding field codes
returns-in-Lane c = rw c.in-Lane.is c.put_number-in-Lane.ensures

pub returns-in-Mark : goal.returns-in-Mark
unfolding field codes
returns-in-Mark c = rw c.in-Mark.is c.put_number-in-Mark.ensures

pub returns-in-Byte : goal.returns-in-Byte
returns-in-Byte c = rw c.in-Byte.is c.put_byte.ensures

-- `program_fields::read` meets its contract, by the kind of the field. Assumes nothing.
use borrow.Author.Rules.{rules}
use Rattle.program_fields.specs.Fields.{find}
use Rattle.program_fields.proofs.Found.{past}
use Rattle.program_fields.proofs.read.Goals as goal

pub returns-then-at-line : goal.returns-then-at-line
returns-then-at-line c = record { inside = tt; is = past _ _ c.args.at (search rules) }

pub returns-in-Register : goal.returns-in-Register
returns-in-Register c = rw c.in-Register.is c.register.ensures

pub returns-in-Lane : goal.returns-in-Lane
unfolding find
returns-in-Lane c = rw c.in-Lane.is c.number.ensures

pub returns-in-Mark : goal.returns-in-Mark
unfolding find
returns-in-Mark c = rw c.in-Mark.is c.number-in-Mark.ensures

pub returns-in-Byte : goal.returns-in-Byte
unfolding find
returns-in-Byte c = rw c.in-Byte.is c.byte.ensures

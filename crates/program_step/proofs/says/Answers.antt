-- `program_step::says` meets its contract, by what is read back. Assumes nothing.
use mathlib.Core.Path.{sym}
use Rattle.program_step.proofs.Written.{says_step}
use Rattle.program_step.proofs.says.Goals as goal

pub returns-in-Ok-Some : goal.returns-in-Ok-Some
returns-in-Ok-Some c = says_step _ c.args.step.now c.in-Ok-Some.back _ (rw c.in-Ok-Some.field-0-is at c.in-Ok-Some.ensures) (sym c.same.ensures)

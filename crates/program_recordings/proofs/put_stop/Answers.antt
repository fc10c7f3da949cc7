-- `program_recordings::put_stop` meets its contract. Assumes nothing.
use borrow.Author.Rules.{rules}
use Rattle.program_digits.specs.Codes.{codes}
use Rattle.program_digits.proofs.Puts.{then, no_more}
use Rattle.program_recordings.proofs.put_stop.Goals as goal

pub returns-then-stopped : goal.returns-then-stopped
unfolding codes
returns-then-stopped c = rw c.if-stopped.true (search (rules, then))

pub returns : goal.returns
unfolding codes
returns c = rw c.if-stopped.false (no_more _ _)

-- `program_step::put_mark` meets its contract, by the mark. Assumes nothing.
use borrow.Author.Rules.{rules}
use Rattle.program_digits.proofs.Puts.{then, no_more, said_as}
use Rattle.program_step.proofs.Written.{mark_none, mark_one, mark_more}
use mathlib.Core.Path.{sym}
use Rattle.program_digits.specs.Codes.{codes}
use Rattle.program_step.proofs.put_mark.Goals as goal

pub returns-then-m-eq0 : goal.returns-then-m-eq0
returns-then-m-eq0 c = said_as (sym (mark_none _ (search rules))) (no_more _ _)

pub returns-then-m-eq1 : goal.returns-then-m-eq1
unfolding codes
returns-then-m-eq1 c = said_as (sym (mark_one _ (search rules))) c.put-next.ensures

pub returns : goal.returns
unfolding codes
returns c = said_as (sym (mark_more _ (search rules) (search rules)))
    (then c.put-next.ensures c.put_field.ensures)

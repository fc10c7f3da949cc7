-- `program_reports::put_indices` meets its contract. Assumes nothing.
use borrow.Author.Rules.{rules}
use native.Mathlib.Omega.{arith}
use borrow.Author.Tests.{eq-eqb, ne_eqb}
use Rattle.program_digits.specs.Codes.{codes}
use Rattle.program_digits.proofs.Puts.{then, no_more}
use Rattle.program_reports.proofs.put_indices.Goals as goal

pub returns-then-refused-ne0 : goal.returns-then-refused-ne0
unfolding codes
returns-then-refused-ne0 c = simp (ne_eqb c.args.refused 0 (λ e. omega arith)) (no_more _ _)

pub returns : goal.returns
unfolding codes
returns c =
    simp (eq-eqb c.args.refused 0 (omega arith)) (search (rules, then))

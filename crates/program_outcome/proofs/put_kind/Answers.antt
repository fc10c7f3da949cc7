-- `program_outcome::put_kind` meets its contract. Assumes nothing.
use native.Mathlib.Omega.{arith}
use borrow.Author.Tests.{eq-eqb, ne_eqb}
use Rattle.program_digits.specs.Codes.{codes}
use Rattle.program_outcome.proofs.put_kind.Goals as goal

pub returns-then-kind-eq0 : goal.returns-then-kind-eq0
unfolding codes
returns-then-kind-eq0 c = rw (eq-eqb c.args.kind 0 (omega arith)) c.put.ensures

pub returns-then-kind-eq1 : goal.returns-then-kind-eq1
unfolding codes
returns-then-kind-eq1 c =
    rw (
      ne_eqb c.args.kind 0 (λ e. omega arith),
      eq-eqb c.args.kind 1 (omega arith),
    ) c.put-then-kind-eq1.ensures

pub returns-then-kind-eq2 : goal.returns-then-kind-eq2
unfolding codes
returns-then-kind-eq2 c =
    rw (
      ne_eqb c.args.kind 0 (λ e. omega arith),
      ne_eqb c.args.kind 1 (λ e. omega arith),
      eq-eqb c.args.kind 2 (omega arith),
    ) c.put-then-kind-eq2.ensures

pub returns : goal.returns
unfolding codes
returns c =
    rw (
      ne_eqb c.args.kind 0 (λ e. omega arith),
      ne_eqb c.args.kind 1 (λ e. omega arith),
      ne_eqb c.args.kind 2 (λ e. omega arith),
    ) c.put-2.ensures

-- `program_assemble::take_line` meets its contract, by what the line stands for. Assumes nothing.
use borrow.Author.Rules.{rules}
use native.Mathlib.Omega.{arith}
use mathlib.Core.Path.{◌≡◌, sym}
use Rattle.std.specs.Prelude.{Err}
use Rattle.program_line.proofs.Lines.{above_0}
use Rattle.program_assemble.proofs.Texts.{takes_nothing, takes_none, takes_full, takes_step}
use Rattle.program_assemble.proofs.take_line.Goals as goal

pub returns-in_err-step : goal.returns-in_err-step
returns-in_err-step c =
    let reason = c.in_err-step.field-0.0 in
    let err : c.from_residual.result ≡ Err reason = search rules in
    rw err (takes_none _ _ _ _ c.requires _ (sym c.in_err-step.ensures.says) (above_0 reason))

pub returns-in_default : goal.returns-in_default
returns-in_default c =
    let read = rw c.in_default.is at c.in_ok-step.ensures in
    takes_nothing _ _ _ _ c.requires (sym read.says)

pub returns-then-steps-eq-MOST_STEPS : goal.returns-then-steps-eq-MOST_STEPS
returns-then-steps-eq-MOST_STEPS c =
    let read = rw c.in-Some.is at c.in_ok-step.ensures in
    takes_full _ _ _ _ c.requires _ (sym read.says) (search rules)

pub returns : goal.returns
returns c =
    let read = rw c.in-Some.is at c.in_ok-step.ensures in
    takes_step _ _ _ _ c.requires _ _ _ (sym read.says)
    (omega (arith, c.if-steps-eq-MOST_STEPS.false, c.requires)) (search rules) c.put-at.ensures

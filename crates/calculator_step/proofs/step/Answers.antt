-- `calculator_step::step` meets its contract: what the judge says, and where it is no refusal what is done. Assumes nothing.
use mathlib.Core.Path.{◌≡◌, refl, ◌∙◌}
use Rattle.std.proofs.lemmas.Result.{err_from_is_err_and}
use Rattle.standard_refusal.proofs.Numbers.{not_0}
use Rattle.calculator_state.specs.State.{held}
use Rattle.calculator_step.specs.Done.{numbers}
use Rattle.calculator_step.proofs.Performed.{passes, stops}
use Rattle.calculator_step.proofs.step.Goals as goal

pub returns-in_err-judged-clause-result : goal.returns-in_err-judged-clause-result
returns-in_err-judged-clause-result c =
    let a = c.args in
    let p = err_from_is_err_and c.from_residual.result c.from_residual.ensures.1 in
    let judged = rw (c.in_err-judged.was, c.kind.ensures) at c.judge-judged.ensures in
    rw (p.1, p.2)
    (stops a.place (held a.w.now a.writers.now a.scalar) a.s.now _ _ _ c.operation-op.ensures c.decide-shape.ensures judged (not_0 c.in_err-judged.field-0.0))

pub returns-clause-result : goal.returns-clause-result
returns-clause-result c =
    let a = c.args in
    let judged = rw (c.in_ok-judged.was, c.kind.ensures) at c.judge-judged.ensures in
    let e : c.number.new.writers ≡ numbers c.decide-shape.result a.place a.writers.now a.s.now = rw c.in_ok-judged.was at c.number.ensures in
    passes a.place (held a.w.now a.writers.now a.scalar) a.s.now _ _ _ c.operation-op.ensures c.decide-shape.ensures judged _ refl
    (c.perform.ensures.state c.number.new.writers ∙ rw e)

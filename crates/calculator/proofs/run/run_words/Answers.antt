-- `calculator::run::run_words` meets its contract: a list that the judge passes, or its refusal. Assumes nothing.
use mathlib.Core.Path.{◌≡◌, sym, ap, ◌∙◌}
use lib.ListN.{length, drop}
use Prim.Native.Nat.{◌-◌, ◌*◌, ◌/◌}
use borrow.Author.Tests.{ne_eqb}
use Rattle.standard_refusal.proofs.Numbers.{not_0}
use Rattle.calculator_rules.specs.Definition.{run, steps}
use Rattle.calculator.proofs.Runs.{numbered}
use Rattle.calculator.proofs.run.run_words.Goals as goal

pub returns-in-Ok : goal.returns-in-Ok
unfolding run
returns-in-Ok c =
    let a = c.args in
    let list = a.list.now in
    let passed = rw c.in-Ok.is at c.judge-judged.ensures in
    let left = rw c.in-Ok.is at c.take_up.ensures in
    rw (← passed)
    (c.steps.ensures
    ∙ ap (steps (length list / 32 - a.place) a.limit a.place (drop (32 * a.place) list)) (numbered a.place a.w.now a.writers.now a.scalar left))

pub returns-in-Err : goal.returns-in-Err
unfolding run
returns-in-Err c =
    let some = ne_eqb _ _ (not_0 c.in-Err.refusal) in
    let refused = rw c.in-Err.is at c.judge-judged.ensures in
    let kept : c.take_up.new.writers ≡ c.args.writers.now = rw c.in-Err.is at c.take_up.ensures in
    rw (kept, ← refused, some)

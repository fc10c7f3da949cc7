-- `recording::account::account` meets its contract. Assumes nothing.
use mathlib.Core.Path.{◌≡◌, refl, ◌∙◌}
use mathlib.Core.Bool.{cond}
use lib.Dec.{eqb}
use borrow.Author.Tests.{ne_eqb}
use Rattle.standard.specs.Refusal.{given, refused}
use Rattle.standard_refusal.specs.Number.{number_of}
use Rattle.standard_refusal.proofs.Numbers.{not_0}
use Rattle.calculator_rules.specs.Definition.{step}
use Rattle.calculator_state.specs.State.{held}
use Rattle.recording_rules.proofs.Accounts.{traced, goes_on}
use Rattle.recording.proofs.account.account.Goals as goal

pub returns-in-Ok : goal.returns-in-Ok
returns-in-Ok c =
    let a = c.args in
    let m = held a.w.now a.writers.now a.scalar in
    let after = held c.step.new.w c.step.new.writers c.in-Ok.stepped.scalar in
    let o = c.of.ensures in record {
      traced = rw o.refused
          (traced a.place m after a.s.now 0 _ _ _ c.in-Ok.ensures.result (λ ne. absurd (ne refl)) (o.written ∙ c.in-Ok.ensures.vector) o.kind o.bits);
      onward = rw o.scalar
          (goes_on a.place m after a.s.now 0 _ _ _ c.in-Ok.ensures.result (λ ne. absurd (ne refl)) (o.written ∙ c.in-Ok.ensures.vector) o.kind o.bits);
      answer = rw (o.refused, o.scalar) c.in-Ok.ensures.result;
    }

pub returns-in-Err : goal.returns-in-Err
returns-in-Err c =
    let a = c.args in
    let r = c.in-Err.refusal in
    let some = ne_eqb _ _ (not_0 r) in
    let m = held a.w.now a.writers.now a.scalar in
    let after = held c.step.new.w c.step.new.writers a.scalar in
    let left = c.in-Err.ensures.left in
    let kept : after ≡ m = rw (left.0, left.1) in
    let o = c.of-in-Err.ensures in
    let z : cond (eqb (number_of r) 0) (given after) (refused (number_of r)) ≡ step a.place m a.s.now = rw some c.in-Err.ensures.result in record {
      traced = rw (o.refused, c.from.ensures)
          (traced a.place m after a.s.now (number_of r) _ _ _ z (λ ne. kept) (rw some o.written) o.kind o.bits);
      onward = rw o.scalar (goes_on a.place m after a.s.now (number_of r) 0 _ _ z (λ ne. kept) (rw some refl) o.kind o.bits);
      answer = rw (o.refused, c.from.ensures, o.scalar) z;
    }

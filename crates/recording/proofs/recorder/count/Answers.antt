-- `recording::recorder::count` meets its contract: the records counted, and those of what is left of the run, are as many as the run's. Assumes nothing.
use mathlib.Core.Path.{◌≡◌, refl, ◌∙◌}
use Prim.Native.Nat.{ℕ, ◌+◌, ◌-◌, ◌*◌, ◌/◌}
use native.Mathlib.Nat.{sub-zero}
use native.Mathlib.Omega.{arith}
use borrow.Author.Tests.{ne_eqb}
use lib.ListN.{length}
use Rattle.standard_refusal.specs.Number.{number_of}
use Rattle.standard_refusal.proofs.Numbers.{not_0}
use Rattle.calculator_rules.specs.Definition.{start}
use Rattle.calculator_state.specs.State.{held}
use Rattle.recording_rules.specs.Definition.{records_from, records_of}
use Rattle.recording_rules.proofs.Accounts.{count_more, count_last, count_end}
use Rattle.recording.proofs.recorder.count.Goals as goal

at_start : (f : ℕ → ℕ) (n : ℕ) → 64 * 0 + f (n - 0) ≡ f n
at_start f n = rw sub-zero (omega arith)

pub loop-at-init : goal.loop-at-init
unfolding records_of
loop-at-init c =
    let list = c.args.list.now in
    (refl, omega arith, omega arith, at_start (λ (k : ℕ). length (records_from k 0 list start)) (length list / 32))

pub returns-in-Err : goal.returns-in-Err
returns-in-Err c =
    let l = c.loop-at in
    let a = c.args in
    let r = c.in-Err.field-0 in
    let some = ne_eqb _ _ (not_0 r) in
    let m = held l.w l.writers l.scalar in (
      omega arith,
      count_last (length a.list.now / 32) l.at a.list.now m (omega arith) (omega arith) (number_of r) m (rw some c.in-Err.ensures.result) (not_0 r)
          ∙ l.invariant.3,
    )

pub loop-at-preserved : goal.loop-at-preserved
loop-at-preserved c =
    let l = c.loop-at in
    let a = c.args in (
      refl,
      omega arith,
      l.invariant.2,
      count_more (length a.list.now / 32) l.at a.list.now (held l.w l.writers l.scalar) (omega arith) (omega arith)
          0 (held c.step.new.w c.step.new.writers c.in-Ok.stepped.scalar) c.in-Ok.ensures.result refl
          ∙ l.invariant.3,
    )

pub returns : goal.returns
returns c =
    let l = c.loop-at in
    let a = c.args in
    let n = length a.list.now / 32 in
    let all : 64 * l.at ≡ length (records_of a.list.now) = count_end n l.at a.list.now (held l.w l.writers l.scalar) (omega arith) ∙ l.invariant.3 in
    (omega arith, omega arith)

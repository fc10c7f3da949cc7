-- `gatulefo::calculate::gatulefo_step` meets its contract: the calculator's step, from the state that the words stand for. Assumes nothing.
use Prim.Native.Nat.{ℕ}
use mathlib.Core.Path.{◌≡◌, refl, ap, ◌∙◌}
use Rattle.standard_refusal.specs.Number.{number_of}
use Rattle.calculator_rules.specs.Definition.{Machine, step}
use Rattle.calculator_scalar.specs.Scalar.{kind_of, bits_of}
use Rattle.calculator_state.specs.State.{vectors, held}
use Rattle.link_station.specs.Calculate.{scalar_numbers, machine_numbers, left_by_step}
use Rattle.gatulefo.proofs.Machines.{machines}
use Rattle.gatulefo.proofs.calculate.gatulefo_step.Goals as goal

pub returns-in-Ok : goal.returns-in-Ok
returns-in-Ok c =
    let a = c.args in
    let s = c.scalar_of-held.result in
    let w = a.registers.now in
    let n = a.writers.now in
    ap (λ (p : ℕ × ℕ). (vectors c.step.new.w, c.step.new.writers, p, 0)) c.kind_and_bits.ensures
    ∙ ap (left_by_step (held w n s)) c.in-Ok.ensures.result
    ∙ ap (λ (m : Machine). left_by_step m (step a.place m a.step.now))
    (machines (vectors w) w n s a.scalar.kind a.scalar.bits refl c.scalar_of-held.ensures)

-- a refused step has left all as it was
pub returns-in-Err : goal.returns-in-Err
returns-in-Err c =
    let a = c.args in
    let s = c.scalar_of-held.result in
    let w = a.registers.now in
    let n = a.writers.now in
    let left = c.in-Err.ensures.left in
    ap (λ (p : ℕ × ℕ). (vectors c.step.new.w, c.step.new.writers, p, c.from.result)) c.kind_and_bits-in-Err.ensures
    ∙ rw (c.from.ensures, left.0, left.1) (ap (left_by_step (held w n s)) c.in-Err.ensures.result)
    ∙ ap (λ (m : Machine). left_by_step m (step a.place m a.step.now))
    (machines (vectors w) w n s a.scalar.kind a.scalar.bits refl c.scalar_of-held.ensures)

-- `gatulefo::calculate::gatulefo_run` meets its contract: the calculator's run, from the state that the words stand for. Assumes nothing.
use Prim.Native.Nat.{ℕ}
use mathlib.Core.Path.{refl, ap, ◌∙◌}
use Rattle.calculator_rules.specs.Definition.{run}
use Rattle.calculator_limits.specs.Outcome.{outcome_of}
use Rattle.calculator_state.specs.State.{vectors}
use Rattle.link_station.specs.Calculate.{stop_numbers, left_by_run}
use Rattle.gatulefo.proofs.Machines.{machines}
use Rattle.gatulefo.proofs.calculate.gatulefo_run.Goals as goal

pub returns : goal.returns
returns c =
    let a = c.args in
    let r = c.run_words-stopped.result in
    let w = a.registers.now in
    ap (λ (x : (ℕ × ℕ) × ℕ × (ℕ × ℕ × ℕ)). (vectors c.run_words-stopped.new.w, c.run_words-stopped.new.writers, x))
    (c.run_answer.ensures ∙ ap (λ (p : ℕ × ℕ). (p, r.done, stop_numbers (outcome_of r.outcome))) c.kind_and_bits.ensures)
    ∙ ap left_by_run
    (c.run_words-stopped.ensures
    ∙ ap (run a.list.now a.place a.limit)
    (machines (vectors w) w a.writers.now c.scalar_of.result a.scalar.kind a.scalar.bits refl c.scalar_of.ensures))

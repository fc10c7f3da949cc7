-- What the code's run stands for in the definition.
use Rattle.std.specs.Prelude.{ℕ, List}
use Rattle.calculator_rules.specs.Definition as definition
use Rattle.calculator_rules.specs.Definition.{Machine}
use Rattle.calculator_limits.specs.Outcome.{outcome_of}
use Rattle.calculator_state.specs.State.{machine, held}
use Rattle.calculator.specs.declared.run.Ending.{Ending}
use Rattle.calculator.specs.declared.run.Stopped.{Stopped}

abbrev pub ends : Machine → ℕ → definition.Outcome → definition.Ending
ends m done o = record { machine = m; done = done; outcome = o }

abbrev pub ending_of : Ending → definition.Ending
ending_of r = ends (machine r.state) r.done (outcome_of r.outcome)

-- with the words and the writers that a run leaves
abbrev pub stopped_with : Stopped → List ℕ → List ℕ → definition.Ending
stopped_with r w n = ends (held w n r.scalar) r.done (outcome_of r.outcome)

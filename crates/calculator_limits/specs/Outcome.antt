-- What the code's word of how a run stops stands for in the definition.
use Rattle.calculator_rules.specs.Definition as definition
use Rattle.standard_refusal.specs.Number.{number_of}
use Rattle.calculator_limits.specs.declared.Outcome.{Outcome}

abbrev pub outcome_of : Outcome → definition.Outcome
outcome_of Outcome.Ended = definition.ended
outcome_of (Outcome.Paused place) = definition.paused place
outcome_of (Outcome.Refused refusal) = definition.stopped (number_of refusal)

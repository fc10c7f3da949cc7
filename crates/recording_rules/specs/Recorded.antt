-- What an answer of the recorder stands for.
use Rattle.std.specs.Prelude.{ℕ, Result, Ok, Err}
use Rattle.standard_refusal.specs.Number.{number_of}
use Rattle.recording_rules.specs.Definition as definition
use Rattle.recording_rules.specs.declared.RecordError.{RecordError}

abbrev pub recorded_of : Result ℕ RecordError → definition.Recorded
recorded_of (Ok n) = definition.wrote n
recorded_of (Err RecordError.Empty) = definition.empty
recorded_of (Err RecordError.Short) = definition.short
recorded_of (Err (RecordError.Refused refusal)) = definition.rejected (number_of refusal)

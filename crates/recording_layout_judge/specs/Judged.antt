-- What an answer of the code stands for.
use Rattle.std.specs.Prelude.{ℕ, Result, Ok, Err}
use Rattle.standard_refusal.specs.declared.Refusal.{Refusal}
use Rattle.standard_refusal.specs.Number.{number_of}
use Rattle.recording_layout.specs.Definition as definition

abbrev pub judged_of : Result ℕ Refusal → definition.Judged
judged_of (Ok n) = definition.recording n
judged_of (Err refusal) = definition.refused (number_of refusal)

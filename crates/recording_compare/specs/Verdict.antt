-- What an answer of the code stands for.
use Rattle.std.specs.Prelude.{Result, Ok, Err}
use Rattle.standard_refusal.specs.declared.Refusal.{Refusal}
use Rattle.standard_refusal.specs.Number.{number_of}
use Rattle.recording_fields.specs.Definition as definition
use Rattle.recording_compare.specs.declared.Verdict.{Verdict}

abbrev pub verdict_of : Verdict → definition.Answer
verdict_of Verdict.Agrees = definition.agrees
verdict_of (Verdict.Differs n) = definition.differs n

abbrev pub answer_of : Result Verdict Refusal → definition.Answer
answer_of (Ok verdict) = verdict_of verdict
answer_of (Err refusal) = definition.refused (number_of refusal)

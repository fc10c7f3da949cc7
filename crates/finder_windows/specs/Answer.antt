-- What an answer of the code stands for.
use Rattle.std.specs.Prelude.{Option, Some, None, Result, Ok, Err}
use Rattle.standard_refusal.specs.declared.Refusal.{Refusal}
use Rattle.standard_refusal.specs.Number.{number_of}
use Rattle.finder_windows.specs.Definition as Definition
use Rattle.finder_windows.specs.declared.Found.{Found}

abbrev pub answer_of : Result Found Refusal → Definition.Answer
answer_of (Ok f) = Definition.found f.position f.first f.second
answer_of (Err refusal) = Definition.refused (number_of refusal)

-- Of a search in which nothing is refused but that there is no such position.
abbrev pub met_or_none : Option Found → Definition.Answer
met_or_none (Some f) = Definition.found f.position f.first f.second
met_or_none None = Definition.refused 11

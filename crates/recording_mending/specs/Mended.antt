-- What an answer of the code stands for.
use Rattle.std.specs.Prelude.{map, Result, Ok, Err}
use Rattle.standard_refusal.specs.declared.Refusal.{Refusal}
use Rattle.standard_refusal.specs.Number as refusal
use Rattle.recording_mending_rules.specs.Definition as definition
use Rattle.recording_mending_place.specs.Mended.{number_of}
use Rattle.recording_mending.specs.declared.Mending.{Mending}

abbrev pub mending_of : Result Mending Refusal → definition.Mending
mending_of (Ok m) = record { refusal = 0; blocks = m.written; stopped = m.stopped; bits = map number_of m.bits }
mending_of (Err r) = definition.refused (refusal.number_of r)

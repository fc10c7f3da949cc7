-- `recording_compare::not_the_same` meets its contract. Assumes nothing.
use mathlib.Core.Path.{ap}
use native.Mathlib.Numerals.{add-one}
use Rattle.recording_fields.specs.Definition.{differs}
use Rattle.recording_compare.proofs.not_the_same.Goals as goal

pub returns : goal.returns
returns c = ap differs (add-one c.args.place)

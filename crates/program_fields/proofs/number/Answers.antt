-- `program_fields::number` meets its contract. Assumes nothing.
use mathlib.Core.Path.{◌∙◌}
use Rattle.program_words.specs.Cut.{blank}
use Rattle.program_words.proofs.Scans.{scanned}
use Rattle.program_fields.proofs.Found.{is_number}
use Rattle.program_fields.proofs.number.Goals as goal

pub returns : goal.returns
returns c =
    let scan = scanned blank _ _ _ c.requires c.scan-end.ensures.place in
    record { inside = c.within.ensures.inside; is = c.within.ensures.is ∙ is_number _ _ _ scan _ _ }

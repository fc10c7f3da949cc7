-- `program_line::take_field` meets its contract. Assumes nothing.
use Rattle.program_words.specs.Cut.{solid}
use Rattle.program_words.specs.Stops.{Scanned}
use Rattle.program_words.proofs.Scans.{scanned}
use Rattle.program_line.proofs.Fields.{is_found, not_found}
use Rattle.program_line.proofs.take_field.Goals as goal

pub returns-in_default : goal.returns-in_default
returns-in_default c =
    let given = c.args in
    let found : Scanned solid given.line.now given.r.at c.scan-at.result = scanned solid _ _ _ c.requires.at_in_bounds c.scan-at.ensures.place in
    record { inside = tt; is = not_found _ _ given.place given.r.at _ given.r.step found _ c.expected.ensures c.in_default.ensures.is }

pub returns : goal.returns
returns c =
    let given = c.args in
    let found : Scanned solid given.line.now given.r.at c.scan-at.result = scanned solid _ _ _ c.requires.at_in_bounds c.scan-at.ensures.place in
    let value = c.in-Some.ensures in
    record { inside = value.inside; is = is_found _ _ given.place given.r.at _ given.r.step found c.in-Some.n c.in-Some.next value.is }

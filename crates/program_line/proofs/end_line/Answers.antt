-- `program_line::end_line` meets its contract. Assumes nothing.
use borrow.Author.Rules.{rules}
use Rattle.program_words.specs.Cut.{solid}
use Rattle.program_words.proofs.Scans.{scanned}
use Rattle.program_line.specs.declared.Reason.{Reason}
use Rattle.program_line.proofs.Lines.{read_as, step_read, wrong_read, ends_more, ends_step}
use Rattle.program_line.proofs.end_line.Goals as goal

pub returns-then-scan-line : goal.returns-then-scan-line
returns-then-scan-line c =
    let given = c.args in
    let found = scanned solid _ _ _ c.requires c.scan.ensures.place in
    read_as (ends_more given.line.now given.r.at given.r.step _ c.scan.ensures.place found (search rules)) (wrong_read Reason.TooMuch)

pub returns : goal.returns
returns c =
    let given = c.args in
    let found = scanned solid _ _ _ c.requires c.scan.ensures.place in
    read_as (ends_step given.line.now given.r.at given.r.step _ c.scan.ensures.place found (search rules)) (step_read given.r.step)

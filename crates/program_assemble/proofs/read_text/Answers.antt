-- `program_assemble::read_text` meets its contract: each turn reads one line. Assumes nothing.
use borrow.Author.Rules.{rules}
use Rattle.std.specs.Prelude.{Ok, Err}
use Rattle.program_words.specs.Cut.{newline}
use Rattle.program_words.specs.Stops.{Scanned}
use Rattle.program_words.proofs.Scans.{scanned}
use Rattle.program_line.proofs.Lines.{above_0}
use Rattle.program_assemble.proofs.Texts.{nothing_yet, wrong_here, all_read, read_on}
use Rattle.program_assemble.specs.Meaning.{taken_of}
use Rattle.program_assemble.proofs.read_text.Goals as goal

pub loop-taken-init : goal.loop-taken-init
loop-taken-init c = (search rules, nothing_yet _ _)

pub returns-in-Err : goal.returns-in-Err
returns-in-Err c =
    let at = c.loop-taken in
    let found : Scanned newline c.args.text.now at.from c.scan-end.result = scanned newline _ _ _ at.invariant.1.inside c.scan-end.ensures.place in
    wrong_here (taken_of at.steps at.at (Err c.in-Err.reason)) at.invariant.1 found c.in-Err.ensures (above_0 c.in-Err.reason)

pub returns-then-end-text : goal.returns-then-end-text
returns-then-end-text c =
    let at = c.loop-taken in
    let found : Scanned newline c.args.text.now at.from c.scan-end.result = scanned newline _ _ _ at.invariant.1.inside c.scan-end.ensures.place in
    all_read (taken_of at.steps at.at (Ok c.in-Ok.taken)) at.invariant.1 found c.in-Ok.ensures (search rules) (search rules)

pub loop-taken-preserved : goal.loop-taken-preserved
loop-taken-preserved c =
    let at = c.loop-taken in
    let found : Scanned newline c.args.text.now at.from c.scan-end.result = scanned newline _ _ _ at.invariant.1.inside c.scan-end.ensures.place in (
      search rules,
      read_on (taken_of at.steps at.at (Ok c.in-Ok.taken)) at.invariant.1 found c.in-Ok.ensures (search rules) c.if-end-text.false,
    )

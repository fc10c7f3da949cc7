-- `program_show::show` meets its contract. Assumes nothing.
use borrow.Author.Rules.{rules}
use mathlib.Core.Path.{sym, ap}
use mathlib.Core.List.{◌++◌}
use Rattle.recording_fields.specs.Definition as trace
use Rattle.recording_layout.specs.Definition.{judged}
use Rattle.program_recordings.specs.Lines.{replay}
use Rattle.program_digits.proofs.Puts.{then, said_as, filled}
use Rattle.program_show.specs.Show.{show_judged, show_text}
use Rattle.program_show.proofs.Lengths.{show_within}
use Rattle.program_show.proofs.show.Goals as goal

pub returns : goal.returns
unfolding show_text
returns c =
    let file = c.args.file.now in
    filled (show_within file) (search rules)
    (said_as (ap (λ (x : trace.Answer). show_judged (judged file) file ++ replay x) (sym c.replay.ensures))
    (then c.put_judged-next.ensures c.put_answer.ensures))

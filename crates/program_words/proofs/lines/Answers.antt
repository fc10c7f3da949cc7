-- `program_words::lines` meets its contract: a line for each line's end that is passed. Assumes nothing.
use mathlib.Core.Path.{◌≡◌, sym, ◌∙◌}
use native.Mathlib.Omega.{arith}
use lib.ListN.{take}
use lib.Seq.{take_all}
use Rattle.program_words.specs.Cut.{newline}
use Rattle.program_words.proofs.Counts.{length_pieces}
use Rattle.program_words.proofs.lines.Goals as goal

pub returns : goal.returns
returns c =
    let text = c.args.text.now in
    let at = c.loop-c in
    let all : take at.c-index text ≡ text = take_all at.c-index text (omega arith) in
    at.invariant ∙ rw all (sym (length_pieces newline text))

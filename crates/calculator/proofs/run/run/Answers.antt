-- `calculator::run::run` meets its contract: the run over the words of its registers. Assumes nothing.
use mathlib.Core.Path.{◌∙◌}
use Rattle.calculator.proofs.run.run.Goals as goal

pub returns : goal.returns
returns c =
    rw c.of_words.ensures (c.run_words-stopped.ensures ∙ rw c.words-w.ensures)

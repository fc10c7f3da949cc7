-- `gatulefo::recordings::gatulefo_mend` meets its contract: what mending answers, with what it left in the buffer. Assumes nothing.
use mathlib.Core.Path.{◌∙◌}
use Rattle.gatulefo.proofs.Pairs.{beside}
use Rattle.gatulefo.proofs.recordings.gatulefo_mend.Goals as goal

pub returns : goal.returns
returns c = beside _ _ _ c.mend_answer.ensures ∙ c.mend.ensures

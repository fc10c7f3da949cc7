-- `gatulefo::recordings::gatulefo_record` meets its contract: the recorder's answer as numbers, with what it left in the buffer. Assumes nothing.
use mathlib.Core.Path.{ap, ◌∙◌}
use Rattle.link_station.specs.Recording.{left_by_recorder}
use Rattle.gatulefo.proofs.Pairs.{beside}
use Rattle.gatulefo.proofs.recordings.gatulefo_record.Goals as goal

pub returns : goal.returns
returns c = beside _ _ _ c.record_answer.ensures ∙ ap left_by_recorder c.before.before.before.«record».ensures

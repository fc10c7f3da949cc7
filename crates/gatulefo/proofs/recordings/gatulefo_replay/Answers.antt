-- `gatulefo::recordings::gatulefo_replay` meets its contract: the replay's answer as numbers. Assumes nothing.
use mathlib.Core.Path.{ap, ◌∙◌}
use Rattle.link_station.specs.Recording.{replayed}
use Rattle.gatulefo.proofs.recordings.gatulefo_replay.Goals as goal

pub returns : goal.returns
returns c = c.replay_answer.ensures ∙ ap replayed c.replay.ensures

-- `replay::answer` meets its contract: the lines of what `replay` answers. Assumes nothing.
use Rattle.replay.proofs.answer.Goals as goal

pub returns : goal.returns
returns c = rw (← c.replay.ensures) c.replay-2.ensures

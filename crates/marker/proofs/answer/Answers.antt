-- `marker::answer` meets its contract: the lines of what `find` answers. Assumes nothing.
use Rattle.marker.proofs.answer.Goals as goal

pub returns : goal.returns
returns c = rw (← c.find.ensures) c.marker.ensures

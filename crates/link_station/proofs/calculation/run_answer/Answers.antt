-- `link_station::calculation::run_answer` meets its contract: each case by itself. Assumes nothing.
use mathlib.Core.Path.{refl}
use Rattle.link_station.proofs.calculation.run_answer.Goals as goal

pub returns-in-Ended : goal.returns-in-Ended
returns-in-Ended c = rw c.in-Ended.is refl

pub returns-in-Paused : goal.returns-in-Paused
returns-in-Paused c = rw c.in-Paused.is refl

pub returns-in-Refused : goal.returns-in-Refused
returns-in-Refused c = rw (c.in-Refused.is, c.from.ensures) refl

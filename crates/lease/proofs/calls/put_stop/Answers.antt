-- `lease::calls::put_stop` meets its contract. Assumes nothing.
use Rattle.program_digits.specs.Codes.{codes}
use Rattle.lease.proofs.calls.put_stop.Goals as goal

pub returns-in-Ended : goal.returns-in-Ended
unfolding codes
returns-in-Ended c = rw c.in-Ended.is c.put.ensures

pub returns-in-Paused : goal.returns-in-Paused
unfolding codes
returns-in-Paused c = rw c.in-Paused.is c.put_number.ensures

pub returns-in-Refused : goal.returns-in-Refused
unfolding codes
returns-in-Refused c = rw (c.in-Refused.is, ← c.from.ensures) c.put_number-in-Refused.ensures

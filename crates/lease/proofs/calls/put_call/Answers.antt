-- `lease::calls::put_call` meets its contract. Assumes nothing.
use Rattle.program_digits.specs.Codes.{codes}
use Rattle.program_digits.proofs.Puts.{then}
use Rattle.lease.proofs.calls.put_call.Goals as goal

pub returns : goal.returns
unfolding codes
returns c = then c.put_number-next.ensures
    (then c.put_stop-next.ensures c.put.ensures)

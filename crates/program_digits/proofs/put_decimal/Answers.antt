-- `program_digits::put_decimal` meets its contract. Assumes nothing.
use Rattle.program_digits.specs.Digits.{decimal}
use Rattle.program_digits.proofs.put_decimal.Goals as goal

pub returns : goal.returns
unfolding decimal
returns c = rw (← c.places.ensures.value) c.put_digits.ensures

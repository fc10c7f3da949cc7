-- `program_recordings::put_bit` meets its contract. Assumes nothing.
use borrow.Author.Tests.{lt-ltb}
use Rattle.program_digits.specs.Codes.{codes}
use Rattle.program_digits.proofs.Puts.{then, no_more, said_as}
use Rattle.program_recordings.proofs.put_bit.Goals as goal

pub returns-in-Some : goal.returns-in-Some
unfolding codes
returns-in-Some c =
    let w = then c.put_number-next.ensures c.put_count.ensures in
    said_as (rw (c.in-Some.is, lt-ltb c.in-Some.bit.number 4096 c.in-Some.bit.in_block)) w

pub returns-in-None : goal.returns-in-None
unfolding codes
returns-in-None c = rw c.in-None.is (no_more _ _)

-- `program_outcome::put_left` meets its contract. Assumes nothing.
use Rattle.program_digits.specs.Codes.{codes}
use Rattle.program_digits.proofs.Puts.{then, said_as}
use Rattle.program_outcome.proofs.Parts.{left_as}
use Rattle.program_outcome.proofs.put_left.Goals as goal

pub returns : goal.returns
unfolding codes
returns c =
    said_as (left_as c.args.r.now
    c.byte.ensures
    c.byte-2.ensures)
    (then c.put-next.ensures (then c.put_vector-next.ensures
    (then c.put_kind-next.ensures
    (then c.put_scalar-next.ensures c.put_count.ensures))))

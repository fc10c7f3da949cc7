-- `program_listing::put_vector` meets its contract. Assumes nothing.
use borrow.Author.Rules.{rules}
use Rattle.program_digits.proofs.Puts.{then, said_as}
use Rattle.program_listing.proofs.Lines.{both_halves}
use Rattle.program_listing.proofs.put_vector.Goals as goal

pub returns : goal.returns
returns c =
    let v = c.args.v in
    said_as (both_halves v.lo v.hi (search rules))
    (then c.put_half-next.ensures c.put_half.ensures)

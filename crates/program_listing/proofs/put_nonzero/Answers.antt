-- `program_listing::put_nonzero` meets its contract. Assumes nothing.
use Rattle.program_digits.specs.Codes.{codes}
use Rattle.program_digits.proofs.Puts.{then}
use Rattle.program_listing.specs.Listing.{nonzero_line}
use Rattle.program_listing.proofs.put_nonzero.Goals as goal

pub returns : goal.returns
unfolding nonzero_line codes
returns c =
    then c.put-next.ensures
    (then c.put_two_decimals-next.ensures (then c.put-next-2.ensures
    (then c.put_vector-next.ensures c.put_count.ensures)))

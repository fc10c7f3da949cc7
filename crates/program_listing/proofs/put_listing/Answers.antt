-- `program_listing::put_listing` meets its contract. Assumes nothing.
use Rattle.program_digits.specs.Codes.{codes}
use Rattle.program_digits.proofs.Puts.{then}
use Rattle.program_listing.specs.Listing.{listing}
use Rattle.program_listing.proofs.put_listing.Goals as goal

pub returns : goal.returns
unfolding listing codes
returns c =
    then c.put_count-next.ensures
    (then c.put_registers-next.ensures
    (then c.put_scalar-next.ensures c.put_count.ensures))

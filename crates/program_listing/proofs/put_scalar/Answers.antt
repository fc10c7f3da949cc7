-- `program_listing::put_scalar` meets its contract. Assumes nothing.
use Rattle.program_digits.specs.Codes.{codes}
use Rattle.program_listing.specs.Listing.{scalar_line}
use Rattle.program_listing.proofs.put_scalar.Goals as goal

pub returns-in-I32 : goal.returns-in-I32
unfolding scalar_line codes
returns-in-I32 c = rw (← c.bits-bits.ensures)
    (rw c.in-I32.is c.put_narrow.ensures)

pub returns-in-I64 : goal.returns-in-I64
unfolding scalar_line codes
returns-in-I64 c = rw (← c.bits-bits.ensures)
    (rw c.in-I64.is c.put_wide.ensures)

pub returns-in-F32 : goal.returns-in-F32
unfolding scalar_line codes
returns-in-F32 c = rw (← c.bits-bits.ensures)
    (rw c.in-F32.is c.put_narrow-in-F32.ensures)

pub returns-in-F64 : goal.returns-in-F64
unfolding scalar_line codes
returns-in-F64 c = rw (← c.bits-bits.ensures)
    (rw c.in-F64.is c.put_wide-in-F64.ensures)

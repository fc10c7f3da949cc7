-- `program_listing::put_register` meets its contract. Assumes nothing.
use Rattle.program_digits.proofs.Puts.{no_more}
use Rattle.program_listing.proofs.Lines.{zero_halves}
use Rattle.program_listing.proofs.put_register.Goals as goal

pub returns-then-v : goal.returns-then-v
returns-then-v c =
    let v = c.args.v in
    rw (zero_halves v.lo v.hi, c.if-v.true) (no_more _ _)

pub returns : goal.returns
returns c =
    let v = c.args.v in
    rw (zero_halves v.lo v.hi, c.if-v.false) c.put_nonzero.ensures

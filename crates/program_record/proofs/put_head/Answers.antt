-- `program_record::put_head` meets its contract. Assumes nothing.
use mathlib.Core.Path.{sym}
use native.Mathlib.Omega.{arith}
use lib.Seq.{length-take-le}
use Rattle.program_digits.specs.Codes.{codes}
use Rattle.program_digits.proofs.Puts.{then}
use Rattle.program_record.proofs.put_head.Goals as goal

pub slice_bounds-put_step-end : goal.slice_bounds-put_step-end
slice_bounds-put_step-end c =
    sym (length-take-le 32 c.args.r.now
    (omega (arith, c.requires)))

pub returns : goal.returns
unfolding codes
returns c =
    then c.put_number-next.ensures (then c.put-next.ensures
    (then c.put_step-next.ensures c.put.ensures))

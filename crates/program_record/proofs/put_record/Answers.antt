-- `program_record::put_record` meets its contract. Assumes nothing.
use native.Mathlib.Omega.{arith}
use borrow.Author.Tests.{eq-eqb, ne_eqb}
use lib.ListN.{length}
use Rattle.program_digits.proofs.Puts.{then, no_more}
use Rattle.program_record.specs.Record.{record_text}
use Rattle.program_record.proofs.put_record.Goals as goal

pub returns-then-r-ne64 : goal.returns-then-r-ne64
unfolding record_text
returns-then-r-ne64 c = rw (ne_eqb (length c.args.r.now) 64 (λ e. omega arith)) (no_more _ _)

pub returns-then-d-ne64 : goal.returns-then-d-ne64
unfolding record_text
returns-then-d-ne64 c =
    rw (
      eq-eqb (length c.args.r.now) 64 (omega arith),
      ne_eqb (length c.args.d.now) 64 (λ e. omega arith),
    ) (no_more _ _)

pub returns : goal.returns
unfolding record_text
returns c =
    rw (
      eq-eqb (length c.args.r.now) 64 (omega (
        arith,
        c.if-r-ne64.false,
      )),
      eq-eqb (length c.args.d.now) 64
          (omega (arith, c.if-d-ne64.false)),
    )
    (then c.put_head-next.ensures
    (then c.put_left-next.ensures c.put_difference.ensures))

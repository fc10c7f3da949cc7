-- `program_outcome::put_scalar` meets its contract. Assumes nothing.
use Rattle.program_digits.proofs.Puts.{then, said_as}
use Rattle.program_outcome.proofs.Parts.{four, wide_digits, narrow_digits}
use Rattle.program_outcome.proofs.put_scalar.Goals as goal

pub returns-then-kind : goal.returns-then-kind
returns-then-kind c =
    said_as
    (wide_digits c.args.r.now c.byte-kind.ensures c.if-kind.true (four c.byte-then-kind.ensures c.byte-then-kind-2.ensures
    c.byte-then-kind-3.ensures
    c.byte-then-kind-4.ensures)
    (four c.byte.ensures c.byte-2.ensures c.byte-3.ensures c.byte-4.ensures))
    (then c.put_hex_bytes-next.ensures c.put_hex_bytes.ensures)

pub returns : goal.returns
returns c =
    said_as (narrow_digits c.args.r.now
    c.byte-kind.ensures c.if-kind.false
    (four c.byte.ensures
    c.byte-2.ensures
    c.byte-3.ensures
    c.byte-4.ensures))
    c.put_hex_bytes-2.ensures

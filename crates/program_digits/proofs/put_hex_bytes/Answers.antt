-- `program_digits::put_hex_bytes` meets its contract. Assumes nothing.
use borrow.Author.Rules.{rules}
use native.Mathlib.Numerals.{add-one}
use native.Mathlib.Omega.{arith}
use mathlib.Core.Path.{sym, ap}
use lib.Seq.{take_all}
use Rattle.program_digits.specs.Digits.{hex_bytes}
use Rattle.program_digits.proofs.Laws.{byte_more}
use Rattle.program_digits.proofs.Puts.{then, no_more, said_as}
use Rattle.program_digits.proofs.put_hex_bytes.Goals as goal

pub loop-byte-init : goal.loop-byte-init
unfolding hex_bytes
loop-byte-init c = (search rules, search rules, no_more _ _)

pub loop-byte-preserved : goal.loop-byte-preserved
loop-byte-preserved c =
    let given = c.args in
    let at = c.loop-byte in
    let more = byte_more at.byte-index given.bytes.now (omega arith) in
    (search rules, search rules, said_as (rw add-one more) (then at.invariant.2 c.put_digits-next.ensures))

pub returns : goal.returns
returns c =
    let given = c.args in
    said_as (ap hex_bytes (sym (take_all c.loop-byte.byte-index given.bytes.now (omega arith)))) c.loop-byte.invariant.2

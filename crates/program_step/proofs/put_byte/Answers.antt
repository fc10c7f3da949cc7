-- `program_step::put_byte` meets its contract, by its place. Assumes nothing.
use borrow.Author.Rules.{rules}
use Rattle.program_digits.proofs.Puts.{then, said_as}
use Rattle.program_step.proofs.Written.{byte_apart, byte_beside}
use mathlib.Core.Path.{sym}
use Rattle.program_digits.specs.Codes.{codes}
use Rattle.program_step.proofs.put_byte.Goals as goal

pub returns-then-place-eq0 : goal.returns-then-place-eq0
unfolding codes
returns-then-place-eq0 c = said_as (sym (byte_apart _ _ (search rules)))
    (then c.put-next.ensures c.put_hex_bytes.ensures)

pub returns : goal.returns
returns c = said_as (sym (byte_beside _ _ (search rules))) c.put_hex_bytes-2.ensures

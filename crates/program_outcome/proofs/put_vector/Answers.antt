-- `program_outcome::put_vector` meets its contract. Assumes nothing.
use borrow.Author.Rules.{rules}
use Prim.Native.Nat.{◌+◌, ◌-◌}
use native.Mathlib.Omega.{arith}
use Rattle.program_digits.proofs.Puts.{then, no_more, said_as}
use Rattle.program_outcome.proofs.Parts.{one_byte, no_bytes}
use Rattle.program_outcome.proofs.put_vector.Goals as goal

pub loop-i-init : goal.loop-i-init
loop-i-init c = (search rules, search rules, λ left n p. p)

pub loop-i-preserved : goal.loop-i-preserved
loop-i-preserved c =
    let l = c.loop-i in
    let r = c.args.r.now in (
      search rules,
      search rules,
      λ left n p. l.invariant.2 left n (said_as
          (one_byte r l.i (omega arith) c.byte.ensures) (then c.put_hex_bytes-next.ensures p)),
    )

pub returns : goal.returns
returns c =
    let l = c.loop-i in
    l.invariant.2 _ _ (said_as (no_bytes c.args.r.now (32 + l.i) (16 - l.i) (omega arith)) (no_more _ _))

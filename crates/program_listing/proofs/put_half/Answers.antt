-- `program_listing::put_half` meets its contract. Assumes nothing.
use borrow.Author.Rules.{rules}
use Prim.Native.Nat.{suc, ◌+◌, ◌-◌}
use native.Mathlib.Omega.{arith}
use mathlib.Core.Path.{◌≡◌}
use Rattle.program_digits.proofs.Puts.{then, no_more, said_as}
use Rattle.program_listing.proofs.Lines.{one_byte, no_bytes}
use Rattle.program_listing.proofs.put_half.Goals as goal

pub loop-i-init : goal.loop-i-init
loop-i-init c = (search rules, search rules, λ left r p. p)

pub loop-i-preserved : goal.loop-i-preserved
loop-i-preserved c =
    let at = c.loop-i in
    let left : 8 - at.i ≡ suc (8 - (at.i + 1)) = omega arith in
    let so_far = rw left at at.invariant.2 in
    (search rules, search rules, λ out r p. so_far out r (said_as (one_byte (8 - (at.i + 1)) at.rest) (then c.put_hex_bytes-next.ensures p)))

pub returns : goal.returns
returns c =
    let at = c.loop-i in
    at.invariant.2 _ _ (said_as (no_bytes (8 - at.i) at.rest (omega arith)) (no_more _ _))

-- `program_listing::put_registers` meets its contract. Assumes nothing.
use borrow.Author.Rules.{rules}
use native.Mathlib.Omega.{arith}
use mathlib.Core.List.{map}
use lib.ListN.{length-map, get_or-map}
use Rattle.simd.specs.Number.{number}
use Rattle.program_digits.proofs.Puts.{then, no_more, said_as}
use Rattle.program_listing.proofs.Lines.{one_register, no_registers}
use Rattle.program_listing.proofs.put_registers.Goals as goal

pub loop-i-init : goal.loop-i-init
loop-i-init c = (search rules, search rules, λ left r p. p)

pub loop-i-preserved : goal.loop-i-preserved
loop-i-preserved c =
    let at = c.loop-i in
    let vs = c.args.all in
    let ws = c.args.writers in
    let line = rw (← get_or-map number vs at.i (record { lo = 0; hi = 0 })) at c.put_register-next.ensures in (
      search rules,
      search rules,
      λ left r p. at.invariant.2 left r
          (said_as (one_register (map number vs) ws at.i (simp length-map (search rules)) (search rules)) (then line p)),
    )

pub returns : goal.returns
returns c =
    let at = c.loop-i in
    at.invariant.2 _ _ (said_as (no_registers (map number c.args.all) c.args.writers at.i
    (simp length-map (omega arith))) (no_more _ _))

-- `program_step::put_fields` meets its contract: what is written so far, and one field more. Assumes nothing.
use borrow.Author.Rules.{rules}
use Prim.Native.Nat.{suc, ◌+◌}
use native.Mathlib.Omega.{arith}
use mathlib.Core.Path.{◌≡◌}
use Rattle.program_digits.proofs.Puts.{then, no_more}
use Rattle.program_fields.specs.Values.{field_of}
use Rattle.program_step.specs.Shown.{fields}
use Rattle.program_step.proofs.Written.{fields_more}
use Rattle.program_step.proofs.put_fields.Goals as goal

pub loop-i-init : goal.loop-i-init
unfolding fields
loop-i-init c = (search rules, search rules, no_more _ _)

pub loop-i-preserved : goal.loop-i-preserved
loop-i-preserved c =
    let given = c.args in
    let at = c.loop-i in
    let more : at.i + 1 ≡ suc at.i = omega arith in (
      search rules,
      search rules,
      rw (more, ← fields_more (field_of given.kind) at.i given.place given.step.now, ← c.byte.ensures)
          (then at.invariant.2 c.put_field-next.ensures),
    )

pub returns : goal.returns
returns c =
    let all : c.loop-i.i ≡ c.args.count = omega arith in
    rw all at c.loop-i.invariant.2

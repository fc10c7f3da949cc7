-- `program_disassemble::put_steps` meets its contract: what is written so far, and one line more. Assumes nothing.
use borrow.Author.Rules.{rules}
use Prim.Native.Nat.{suc, ◌+◌, ◌*◌, ◌-◌, ◌/◌}
use native.Mathlib.Omega.{arith}
use mathlib.Core.Path.{◌≡◌}
use lib.ListN.{length}
use Rattle.program_digits.proofs.Puts.{then, no_more}
use Rattle.program_disassemble.specs.Written.{lines}
use Rattle.program_disassemble.proofs.Lines.{lines_more}
use Rattle.program_disassemble.proofs.put_steps.Goals as goal

pub loop-i-init : goal.loop-i-init
unfolding lines
loop-i-init c = (search rules, search rules, no_more _ _)

pub loop-i-preserved : goal.loop-i-preserved
loop-i-preserved c =
    let given = c.args in
    let at = c.loop-i in
    let more : at.i + 1 ≡ suc at.i = omega arith in
    let one : at.i + 1 ≡ 1 + at.i = omega arith in
    let part : 32 * at.i + 32 - 32 * at.i ≡ 32 = omega arith in (
      search rules,
      search rules,
      rw (more, ← lines_more 1 at.i given.list.now)
          (then at.invariant.2 (rw (part, one) at c.put_line-next.ensures)),
    )

pub returns : goal.returns
returns c =
    let all : c.loop-i.i ≡ length c.args.list.now / 32 = omega arith in
    rw all at c.loop-i.invariant.2

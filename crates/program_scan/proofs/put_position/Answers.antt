-- `program_scan::put_position` meets its contract. Assumes nothing.
use Prim.Native.Nat.{◌%◌, ◌/◌}
use mathlib.Core.Path.{ap, ◌∙◌}
use native.Mathlib.Omega.{arith}
use lib.ListN.{length}
use Rattle.program_digits.proofs.Puts.{said_as, no_more}
use Rattle.program_scan.proofs.Ink.{told_met, told_far}
use Rattle.program_scan.proofs.put_position.Goals as goal
use Rattle.program_scan.proofs.put_position.Goals.{then-code-lt-FAR, else-code-lt-FAR}

pub shape_of-block : goal.shape_of-block
shape_of-block c = elim c.if-code-lt-FAR.branch [
  | then-code-lt-FAR w ↦ ap length w.block-is ∙ w.put_line-used.auto.block
  | else-code-lt-FAR w ↦ ap length w.block-is
]

pub returns : goal.returns
returns c =
    let given = c.args in
    let step = c.step in
    let pre = c.requires in record {
      next_ready = step.ensures.next_ready;
      wrote = elim c.if-code-lt-FAR.branch [
        | then-code-lt-FAR w ↦
            let few = pre.plain w.if-code-lt-FAR.true in
            let used = step.ensures.used_value ∙ w.used-is in
            rw (w.block-is, used) (said_as (told_met given.number given.code w.if-code-lt-FAR.true)
            (w.put_line-used.ensures.line_put given.number (given.code % 65536) (given.code / 65536) pre.ready few.0 few.1 (omega arith)))
        | else-code-lt-FAR w ↦
            let used = step.ensures.used_value ∙ w.used-is in
            rw (w.block-is, used) (said_as (told_far given.number given.code w.if-code-lt-FAR.false) (no_more given.block.now given.pen.used))
      ];
      used_bound = elim c.if-code-lt-FAR.branch [
        | then-code-lt-FAR w ↦ omega (arith, step.ensures.used_value, w.used-is, w.put_line-used.ensures.upper_bound)
        | else-code-lt-FAR w ↦ omega (arith, step.ensures.used_value, w.used-is)
      ];
    }

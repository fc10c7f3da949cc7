-- `program_disassemble::put_line` meets its contract: the line is made, and then put. Assumes nothing.
use Prim.Native.Nat.{ℕ, ◌≤◌}
use native.Mathlib.Omega.{arith}
use mathlib.Core.Path.{◌≡◌, refl, sym}
use lib.ListN.{length, replicate}
use lib.Seq.{length-take-le}
use Rattle.program_digits.specs.Codes.{codes}
use Rattle.program_disassemble.proofs.Lines.{line_fits, line_put}
use Rattle.program_disassemble.proofs.put_line.Goals as goal

zeros : length {A = ℕ} (replicate 256 0) ≡ 256
zeros = refl

pub slice_bounds-put-end-2 : goal.slice_bounds-put-end-2
slice_bounds-put-end-2 c = sym (length-take-le _ _ (omega (arith, c.gap-gap.ensures)))

pub slice_bounds-line-end : goal.slice_bounds-line-end
unfolding codes
slice_bounds-line-end c =
    let fits : c.put_count-end.result ≤ length c.put_count-end.new.out =
    line_fits _ _ zeros c.put_step-n.ensures
    c.gap-gap.ensures c.put-column.ensures c.put_count-end.ensures in
    fits

pub slice_bounds-put-end-3 : goal.slice_bounds-put-end-3
unfolding codes
slice_bounds-put-end-3 c =
    let fits : c.put_count-end.result ≤ length c.put_count-end.new.out =
    line_fits _ _ zeros c.put_step-n.ensures
    c.gap-gap.ensures c.put-column.ensures c.put_count-end.ensures in
    sym (length-take-le _ _ fits)

pub returns : goal.returns
unfolding codes
returns c =
    line_put _ _ zeros c.put_step-n.ensures
    c.gap-gap.ensures c.put-column.ensures
    c.put_count-end.ensures c.put.ensures

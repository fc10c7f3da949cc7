-- `program_assemble::assemble` meets its contract, by what is read. Assumes nothing.
use borrow.Author.Rules.{rules}
use Prim.Native.Nat.{ℕ}
use native.Mathlib.Omega.{arith}
use mathlib.Core.Path.{◌≡◌, refl, sym}
use lib.ListN.{length, replicate}
use lib.Seq.{length-take-le}
use Rattle.std.specs.Prelude.{Ok, Err}
use Rattle.program_digits.specs.Codes.{codes}
use Rattle.program_digits.proofs.Puts.{filled}
use Rattle.program_answer.proofs.None.{none}
use Rattle.program_line.proofs.Lines.{above_0}
use Rattle.program_assemble.specs.Meaning.{read_of}
use Rattle.program_assemble.specs.Text.{complaint}
use Rattle.program_assemble.proofs.Texts.{complaint_length, told_long, told_wrong, list_fits, told_list, list_short}
use Rattle.program_assemble.proofs.assemble.Goals as goal

zeros : length {A = ℕ} (replicate 8192 0) ≡ 8192
zeros = refl

pub slice_bounds-lines-end : goal.slice_bounds-lines-end
slice_bounds-lines-end c = sym (length-take-le 65536 c.args.text.now (search rules))

pub returns-then-text-gt65536 : goal.returns-then-text-gt65536
unfolding codes complaint
returns-then-text-gt65536 c =
    rw (told_long c.args.text.now (search rules), ← c.lines-line.ensures)
    (record { output = none _; said = filled (complaint_length _ _) (search rules) c.put_complaint.ensures; status = refl })

pub slice_bounds-put-end-in-Ok : goal.slice_bounds-put-end-in-Ok
slice_bounds-put-end-in-Ok c =
    sym (length-take-le _ _ (list_fits _ (search rules) (read_of (Ok c.in-Ok.steps)) _ _ c.in-Ok.ensures (omega (arith, zeros))))

pub returns-in-Ok : goal.returns-in-Ok
returns-in-Ok c =
    let read = read_of (Ok c.in-Ok.steps) in
    rw (told_list c.args.text.now (search rules) read _ _ c.in-Ok.ensures (omega (arith, zeros)) (search rules))
    (record { output = filled (list_short read _ c.in-Ok.ensures.most) (search rules) c.put.ensures; said = none _; status = refl })

pub returns-in-Err : goal.returns-in-Err
unfolding codes complaint
returns-in-Err c =
    let fault = c.in-Err.fault in
    rw (told_wrong c.args.text.now (search rules) (read_of (Err fault)) _ _ c.in-Err.ensures (above_0 fault.reason))
    (record { output = none _; said = filled (complaint_length _ _) (search rules) c.put_complaint-in-Err.ensures; status = refl })

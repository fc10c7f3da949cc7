-- `program_step::put_plain` meets its contract. Assumes nothing.
use Rattle.program_forms.specs.Takes.{takes_of}
use Rattle.program_forms.proofs.Fits.{Fitting, form_fits}
use native.Mathlib.Omega.{arith}
use mathlib.Core.Path.{ap, ◌∙◌}
use Rattle.program_forms.specs.Forms.{form}
use Rattle.program_step.proofs.Written.{plain_put}
use Rattle.program_step.proofs.put_plain.Goals as goal

pub put_fields-after_registers-requires : goal.put_fields-after_registers-requires
put_fields-after_registers-requires c =
    let fit : Fitting (takes_of c.of-t.result) = rw c.of-t.ensures (form_fits _) in
    omega (arith, fit)

pub put_fields-after_lane-requires : goal.put_fields-after_lane-requires
put_fields-after_lane-requires c =
    let fit : Fitting (takes_of c.of-t.result) =
    rw c.of-t.ensures (form_fits _) in
    omega (arith, fit)

pub put_fields-after_bytes-requires : goal.put_fields-after_bytes-requires
put_fields-after_bytes-requires c =
    let fit : Fitting (takes_of c.of-t.result) =
    rw c.of-t.ensures (form_fits _) in
    omega (arith, fit)

pub returns : goal.returns
returns c =
    plain_put _ _ (c.of-t.ensures ∙ ap form c.operation-n.ensures)
    (rw c.operation-n.ensures at c.put_name-after_name.ensures)
    c.put_fields-after_registers.ensures
    c.put_fields-after_lane.ensures
    c.put_fields-after_bytes.ensures
    (rw c.byte.ensures at c.put_mark.ensures)

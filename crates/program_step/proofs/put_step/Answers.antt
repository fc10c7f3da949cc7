-- `program_step::put_step` meets its contract: the plain line is tried, and put where it says the step. Assumes nothing.
use Prim.Native.Nat.{ℕ, ◌≤◌}
use mathlib.Core.Path.{◌≡◌, refl, sym, ◌∙◌}
use lib.ListN.{length, replicate}
use lib.Seq.{length-take-le}
use Rattle.program_step.proofs.Written.{trial_fits, put_plainly, put_wholly}
use Rattle.program_step.proofs.put_step.Goals as goal

zeros : length {A = ℕ} (replicate 256 0) ≡ 256
zeros = refl

pub slice_bounds-trial-end : goal.slice_bounds-trial-end
slice_bounds-trial-end c =
    let fits : c.put_plain-n.result ≤ length c.put_plain-n.new.out = trial_fits _ zeros c.put_plain-n.ensures in
    fits

pub slice_bounds-says-end : goal.slice_bounds-says-end
slice_bounds-says-end c =
    let fits : c.put_plain-n.result ≤ length c.put_plain-n.new.out = trial_fits _ zeros c.put_plain-n.ensures in
    sym (length-take-le _ _ fits)

pub slice_bounds-trial-end-then-says : goal.slice_bounds-trial-end-then-says
slice_bounds-trial-end-then-says c =
    let fits : c.put_plain-n.result ≤ length c.put_plain-n.new.out =
    trial_fits _ zeros c.put_plain-n.ensures in
    fits

pub slice_bounds-put-end : goal.slice_bounds-put-end
slice_bounds-put-end c =
    let fits : c.put_plain-n.result ≤ length c.put_plain-n.new.out =
    trial_fits _ zeros c.put_plain-n.ensures in
    sym (length-take-le _ _ fits)

pub returns-then-says : goal.returns-then-says
returns-then-says c =
    put_plainly _ zeros c.put_plain-n.ensures
    (sym c.if-says.true ∙ c.says.ensures)
    c.put.ensures

pub returns : goal.returns
returns c =
    put_wholly _ zeros c.put_plain-n.ensures
    (sym c.if-says.false ∙ c.says.ensures) c.put_whole.ensures

-- `program_show::put_judged` meets its contract. Assumes nothing.
use mathlib.Core.Path.{sym, ap}
use Rattle.recording_layout.specs.Definition as layout
use Rattle.recording_layout.proofs.Files.{counted}
use Rattle.program_digits.proofs.Puts.{no_more, said_as}
use Rattle.program_show.specs.Show.{show_judged}
use Rattle.program_show.proofs.put_judged.Goals as goal

pub put_records-requires : goal.put_records-requires
put_records-requires c =
    let e = counted c.args.file.now c.in-Ok.n (sym (rw c.in-Ok.is at c.judge.ensures)) in
    record { n_bound = e.0; n_bound_2 = e.1 }

pub returns-in-Ok : goal.returns-in-Ok
returns-in-Ok c =
    let file = c.args.file.now in
    said_as (ap (λ (x : layout.Judged). show_judged x file) (sym (rw c.in-Ok.is at
    c.judge.ensures))) c.put_records.ensures

pub returns-in-Err : goal.returns-in-Err
returns-in-Err c =
    let file = c.args.file.now in
    said_as (ap (λ (x : layout.Judged). show_judged x file) (sym (rw c.in-Err.is at c.judge.ensures))) (no_more _ _)

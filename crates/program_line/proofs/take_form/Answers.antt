-- `program_line::take_form` meets its contract. Assumes nothing.
use borrow.Author.Rules.{rules}
use mathlib.Core.Path.{◌≡◌, sym, ap, ◌∙◌}
use Rattle.std.specs.Prelude.{Err}
use Rattle.program_fields.specs.Fields.{lane, byte}
use Rattle.program_line.specs.Line.{State, take_fields, take_form}
use Rattle.program_line.proofs.Fields.{still_wrong}
use Rattle.program_line.proofs.take_form.Goals as goal

pub returns-in_err-with_registers : goal.returns-in_err-with_registers
unfolding take_form
returns-in_err-with_registers c =
    let t = c.args.t in
    let err : c.from_residual.result ≡ Err c.in_err-with_registers.field-0.0 = search rules in
    rw err
    (record {
      inside = tt;
      is =
          sym (still_wrong byte t.bytes 16 _)
          ∙ ap (take_fields byte t.bytes 16) (sym (still_wrong lane t.lanes 6 _))
          ∙ ap (λ (x : State). take_fields byte t.bytes 16 (take_fields lane t.lanes 6 x)) c.in_err-with_registers.ensures.is;
    })

pub returns-in_err-with_lane : goal.returns-in_err-with_lane
unfolding take_form
returns-in_err-with_lane c =
    let t = c.args.t in
    let err : c.from_residual-in_err-with_lane.result ≡ Err c.in_err-with_lane.field-0.0 = search rules in
    rw err
    (record {
      inside = tt;
      is =
          sym (still_wrong byte t.bytes 16 _)
          ∙ ap (take_fields byte t.bytes 16) (c.in_err-with_lane.ensures.is ∙ ap (take_fields lane t.lanes 6) c.in_ok-with_registers.ensures.is);
    })

pub returns : goal.returns
unfolding take_form
returns c =
    let t = c.args.t in
    record {
      inside = c.take_fields-3.ensures.inside;
      is =
          c.take_fields-3.ensures.is
          ∙ ap (take_fields byte t.bytes 16) (c.in_ok-with_lane.ensures.is ∙ ap (take_fields lane t.lanes 6) c.in_ok-with_registers.ensures.is);
    }

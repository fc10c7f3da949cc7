-- `program_line::named` meets its contract. Assumes nothing.
use borrow.Author.Rules.{rules}
use mathlib.Core.Path.{◌≡◌, sym, ap, ◌∙◌}
use borrow.Author.Tests.{lt-ltb, le-ltb}
use Rattle.std.specs.Prelude.{Err}
use Rattle.program_forms.proofs.Fits.{form_fits}
use Rattle.program_line.specs.Line.{end_line, take_packed, named}
use Rattle.program_line.specs.declared.Reason.{Reason}
use Rattle.program_line.proofs.Lines.{read_as, wrong_read, packed_wrong}
use Rattle.program_line.proofs.named.Goals as goal

pub returns-then-operation-ge276 : goal.returns-then-operation-ge276
unfolding named
returns-then-operation-ge276 c = rw (le-ltb c.args.operation 276 (search rules)) (wrong_read Reason.Name)

pub take_form-requires-clause-fitting : goal.take_form-requires-clause-fitting
take_form-requires-clause-fitting c = rw c.of.ensures (form_fits _)

pub returns-in_err-fields : goal.returns-in_err-fields
unfolding named
returns-in_err-fields c =
    let err : c.from_residual.result ≡ Err c.in_err-fields.field-0.0 = search rules in
    rw (err, lt-ltb c.args.operation 276 (search rules), ← c.of.ensures)
    (read_as
    (ap end_line (sym (packed_wrong _) ∙ ap take_packed c.in_err-fields.ensures.is))
    (wrong_read c.in_err-fields.field-0.0))

pub returns-in_err-take_packed : goal.returns-in_err-take_packed
unfolding named
returns-in_err-take_packed c =
    let err : c.from_residual-in_err-take_packed.result ≡ Err c.in_err-take_packed.field-0.0 = search rules in
    rw (err, lt-ltb c.args.operation 276 (search rules), ← c.of.ensures)
    (read_as
    (ap end_line (c.in_err-take_packed.ensures.is ∙ ap take_packed c.in_ok-fields.ensures.is))
    (wrong_read c.in_err-take_packed.field-0.0))

pub returns : goal.returns
unfolding named
returns c =
    rw (lt-ltb c.args.operation 276 (search rules), ← c.of.ensures)
    (read_as (ap end_line (c.in_ok-take_packed.ensures.is ∙ ap take_packed c.in_ok-fields.ensures.is)) c.end_line.ensures)

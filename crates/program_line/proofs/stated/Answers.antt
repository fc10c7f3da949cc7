-- `program_line::stated` meets its contract. Assumes nothing.
use borrow.Author.Rules.{rules}
use Prim.Native.Nat.{ℕ}
use native.Mathlib.Omega.{arith}
use mathlib.Core.Path.{◌≡◌, ap, ◌∙◌, sym}
use lib.ListN.{drop}
use Rattle.std.specs.Prelude.{Err}
use Rattle.program_digits.specs.Codes.{codes}
use Rattle.program_words.specs.Cut.{blank, solid}
use Rattle.program_words.specs.Stops.{Scanned}
use Rattle.program_words.proofs.Scans.{scanned}
use Rattle.program_line.specs.Line.{end_line, named}
use Rattle.program_line.proofs.Lines.{read_as, nothing_read, wrong_read, nothing_there, is_whole, is_named}
use Rattle.program_line.proofs.stated.Goals as goal

pub returns-then-at-line : goal.returns-then-at-line
returns-then-at-line c =
    let found : Scanned solid c.args.line.now 0 c.scan-at.result =
    scanned solid _ _ _ (omega arith) c.scan-at.ensures.place in
    read_as (nothing_there _ _ found (search rules)) nothing_read

pub returns-in_err-take_fields : goal.returns-in_err-take_fields
unfolding codes
returns-in_err-take_fields c =
    let found : Scanned solid c.args.line.now 0 c.scan-at.result = scanned solid _ _ _ (omega arith) c.scan-at.ensures.place in
    let found_2 : Scanned blank c.args.line.now c.scan-at.result c.scan-end.result =
    scanned blank _ _ _ found.high c.scan-end.ensures.place in
    let same = sym c.same.ensures in
    let err : c.from_residual.result ≡ Err c.in_err-take_fields.field-0.0 = search rules in
    rw err
    (read_as
    (ap end_line c.in_err-take_fields.ensures.is
    ∙ is_whole _ _ found c.if-at-line.false _ found_2 _ same c.if-same.true)
    (wrong_read c.in_err-take_fields.field-0.0))

pub returns-then-same : goal.returns-then-same
unfolding codes
returns-then-same c =
    let found : Scanned solid c.args.line.now 0 c.scan-at.result = scanned solid _ _ _ (omega arith) c.scan-at.ensures.place in
    let found_2 : Scanned blank c.args.line.now c.scan-at.result c.scan-end.result =
    scanned blank _ _ _ found.high c.scan-end.ensures.place in
    let same = sym c.same.ensures in
    read_as
    (ap end_line c.in_ok-take_fields.ensures.is
    ∙ is_whole _ _ found c.if-at-line.false _ found_2 _ same c.if-same.true)
    c.end_line.ensures

pub returns : goal.returns
unfolding codes
returns c =
    let found : Scanned solid c.args.line.now 0 c.scan-at.result = scanned solid _ _ _ (omega arith) c.scan-at.ensures.place in
    let found_2 : Scanned blank c.args.line.now c.scan-at.result c.scan-end.result =
    scanned blank _ _ _ found.high c.scan-end.ensures.place in
    let line = c.args.line.now in
    let same = sym c.same.ensures in
    read_as
    (ap (λ (n : ℕ). named n (drop c.scan-end.result line)) c.number.ensures
    ∙ is_named _ _ found c.if-at-line.false _ found_2 _ same c.if-same.false)
    c.named.ensures

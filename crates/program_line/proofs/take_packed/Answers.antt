-- `program_line::take_packed` meets its contract. Assumes nothing.
use borrow.Author.Rules.{rules}
use native.Mathlib.Omega.{arith}
use mathlib.Core.Path.{◌∙◌, sym}
use Rattle.program_digits.specs.Codes.{codes}
use Rattle.program_words.specs.Cut.{blank, solid}
use Rattle.program_words.specs.Stops.{Scanned}
use Rattle.program_words.proofs.Scans.{scanned}
use Rattle.program_line.proofs.Lines.{not_apart, not_packed, marked_one, marked}
use Rattle.program_line.proofs.take_packed.Goals as goal

pub returns-then-at-from : goal.returns-then-at-from
returns-then-at-from c =
    let found : Scanned solid c.args.line.now c.args.r.at c.scan-at.result =
    scanned solid _ _ _ c.requires c.scan-at.ensures.place in
    let r = c.args.r in
    record { inside = c.requires; is = not_apart _ r.at r.step _ c.scan-at.ensures.place found (search rules) }

pub returns-then-not-same : goal.returns-then-not-same
unfolding codes
returns-then-not-same c =
    let found : Scanned solid c.args.line.now c.args.r.at c.scan-at.result =
    scanned solid _ _ _ c.requires c.scan-at.ensures.place in
    let found_2 : Scanned blank c.args.line.now c.scan-at.result c.scan-end.result =
    scanned blank _ _ _ found.high c.scan-end.ensures.place in
    let r = c.args.r in
    let same = sym c.same.ensures in
    record {
      inside = c.requires;
      is = not_packed _ r.at r.step _ c.scan-at.ensures.place found c.if-at-from.false _
          found_2 _ same (c.if-not-same.true);
    }

pub returns-then-next-line : goal.returns-then-next-line
unfolding codes
returns-then-next-line c =
    let found : Scanned solid c.args.line.now c.args.r.at c.scan-at.result =
    scanned solid _ _ _ c.requires c.scan-at.ensures.place in
    let found_2 : Scanned blank c.args.line.now c.scan-at.result c.scan-end.result =
    scanned blank _ _ _ found.high c.scan-end.ensures.place in
    let found_3 : Scanned solid c.args.line.now c.scan-end.result c.scan-next.result =
    scanned solid _ _ _ found_2.high c.scan-next.ensures.place in
    let r = c.args.r in
    let same = sym c.same.ensures in
    record {
      inside = found_3.high;
      is = marked_one _ r.at r.step _ c.scan-at.ensures.place found c.if-at-from.false _
          found_2 _ same (c.if-not-same.false) _ found_3 (search rules);
    }

pub take_field-requires : goal.take_field-requires
take_field-requires c =
    let found : Scanned solid c.args.line.now c.args.r.at c.scan-at.result =
    scanned solid _ _ _ c.requires c.scan-at.ensures.place in
    let found_2 : Scanned blank c.args.line.now c.scan-at.result c.scan-end.result =
    scanned blank _ _ _ found.high c.scan-end.ensures.place in
    let found_3 : Scanned solid c.args.line.now c.scan-end.result c.scan-next.result =
    scanned solid _ _ _ found_2.high c.scan-next.ensures.place in
    record { at_in_bounds = found_3.high; place_bound = omega arith }

pub returns : goal.returns
unfolding codes
returns c =
    let found : Scanned solid c.args.line.now c.args.r.at c.scan-at.result =
    scanned solid _ _ _ c.requires c.scan-at.ensures.place in
    let found_2 : Scanned blank c.args.line.now c.scan-at.result c.scan-end.result =
    scanned blank _ _ _ found.high c.scan-end.ensures.place in
    let found_3 : Scanned solid c.args.line.now c.scan-end.result c.scan-next.result =
    scanned solid _ _ _ found_2.high c.scan-next.ensures.place in
    let r = c.args.r in
    let same = sym c.same.ensures in
    record {
      inside = c.take_field.ensures.inside;
      is =
          c.take_field.ensures.is
          ∙ marked _ r.at r.step _ c.scan-at.ensures.place found c.if-at-from.false _
          found_2 _ same (c.if-not-same.false) _ found_3 (search rules);
    }

-- `program_line::take_fields` meets its contract. Assumes nothing.
use borrow.Author.Rules.{rules}
use Prim.Native.Nat.{suc, ◌+◌, ◌-◌}
use native.Mathlib.Omega.{arith}
use mathlib.Core.Path.{◌≡◌, sym, ap, ◌∙◌}
use Rattle.std.specs.Prelude.{Err}
use Rattle.program_fields.specs.Values.{field_of}
use Rattle.program_line.specs.Line.{take_fields}
use Rattle.program_line.proofs.Fields.{still_wrong}
use Rattle.program_line.proofs.take_fields.Goals as goal

pub loop-i-init : goal.loop-i-init
loop-i-init c =
    let count = c.args.count in
    let place = c.args.place in
    let all : count - 0 ≡ count = omega arith in
    let here : place + 0 ≡ place = omega arith in
    (search rules, search rules, rw (all, here))

pub returns-in_err-r : goal.returns-in_err-r
unfolding take_fields
returns-in_err-r c =
    let given = c.args in
    let at = c.loop-i in
    let f = field_of given.kind in
    let left : given.count - at.i ≡ suc (given.count - (at.i + 1)) = omega arith in
    let err : c.from_residual.result ≡ Err c.in_err-r.field-0.0 = search rules in
    rw err
    (record {
      inside = tt;
      is =
          sym (still_wrong f (given.count - (at.i + 1)) (suc (given.place + at.i)) _)
          ∙ ap (take_fields f (given.count - (at.i + 1)) (suc (given.place + at.i))) c.in_err-r.ensures.is
          ∙ (rw left at at.invariant.2);
    })

pub loop-i-preserved : goal.loop-i-preserved
unfolding take_fields
loop-i-preserved c =
    let given = c.args in
    let at = c.loop-i in
    let left : given.count - at.i ≡ suc (given.count - (at.i + 1)) = omega arith in
    let next : given.place + (at.i + 1) ≡ suc (given.place + at.i) = omega arith in
    (search rules, c.in_ok-r.ensures.inside, rw (c.in_ok-r.ensures.is, next) (rw left at at.invariant.2))

pub returns : goal.returns
unfolding take_fields
returns c =
    let given = c.args in
    let at = c.loop-i in
    let none : given.count - at.i ≡ 0 = omega arith in
    record { inside = at.invariant.1; is = rw none at at.invariant.2 }

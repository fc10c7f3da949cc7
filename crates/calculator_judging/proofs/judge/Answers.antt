-- `calculator_judging::judge` meets its contract: the tests of each shape one after the other, as the definition has them. Assumes nothing.
use mathlib.Core.Path.{refl, ◌∙◌, ap}
use Rattle.std.proofs.lemmas.Result.{err_from_is_err_and}
use Rattle.standard_refusal.specs.Number.{code_of}
use Rattle.standard_refusal.proofs.Numbers.{not_0}
use Rattle.calculator_rules.specs.Definition.{refusal}
use Rattle.calculator_rules.proofs.Judged.{judged, register, register_fails, register_passes, place, place_fails, place_passes, unused}
use Rattle.calculator_judging.proofs.judge.Goals as goal

pub returns-in-None : goal.returns-in-None
unfolding refusal
returns-in-None c = rw c.in-None.is

pub returns-in-Constant : goal.returns-in-Constant
returns-in-Constant c =
    judged _ _ _ c.in-Constant.is refl (register c.register.ensures c.byte-to.ensures (unused c.byte-number.type_inv c.byte-number.ensures refl))

pub returns-in_err-register-in-Shuffle : goal.returns-in_err-register-in-Shuffle
returns-in_err-register-in-Shuffle c =
    let p = err_from_is_err_and c.from_residual.result c.from_residual.ensures.1 in
    rw (p.1, p.2)
    (judged _ _ _ c.in-Shuffle.is refl (register_fails _ (not_0 c.in_err-register-in-Shuffle.field-0.0) c.in_err-register-in-Shuffle.ensures c.byte-a.ensures))

pub returns-in_err-register-in-Shuffle-2 : goal.returns-in_err-register-in-Shuffle-2
returns-in_err-register-in-Shuffle-2 c =
    let p = err_from_is_err_and c.from_residual-in_err-register-in-Shuffle-2.result c.from_residual-in_err-register-in-Shuffle-2.ensures.1 in
    rw (p.1, p.2)
    (judged _ _ _ c.in-Shuffle.is refl (register_passes c.in_ok-register-in-Shuffle.ensures c.byte-a.ensures
    (register_fails _ (not_0 c.in_err-register-in-Shuffle-2.field-0.0) c.in_err-register-in-Shuffle-2.ensures c.byte-b.ensures)))

pub returns-in_err-register-in-Shuffle-3 : goal.returns-in_err-register-in-Shuffle-3
returns-in_err-register-in-Shuffle-3 c =
    let p = err_from_is_err_and c.from_residual-in_err-register-in-Shuffle-3.result c.from_residual-in_err-register-in-Shuffle-3.ensures.1 in
    rw (p.1, p.2)
    (judged _ _ _ c.in-Shuffle.is refl (register_passes c.in_ok-register-in-Shuffle.ensures c.byte-a.ensures
    (register_passes c.in_ok-register-in-Shuffle-2.ensures c.byte-b.ensures
    (register_fails _ (not_0 c.in_err-register-in-Shuffle-3.field-0.0) c.in_err-register-in-Shuffle-3.ensures c.byte-to.ensures))))

pub returns-in_ok-register-in-Shuffle-3 : goal.returns-in_ok-register-in-Shuffle-3
returns-in_ok-register-in-Shuffle-3 c =
    judged _ _ _ c.in-Shuffle.is refl (register_passes c.in_ok-register-in-Shuffle.ensures c.byte-a.ensures
    (register_passes c.in_ok-register-in-Shuffle-2.ensures c.byte-b.ensures
    (register_passes c.in_ok-register-in-Shuffle-3.ensures c.byte-to.ensures
    (unused c.byte-number.type_inv c.byte-number.ensures c.indices_fit.ensures))))

pub returns-in_err-register-in-Unary : goal.returns-in_err-register-in-Unary
returns-in_err-register-in-Unary c =
    let p = err_from_is_err_and c.from_residual-in_err-register-in-Unary.result c.from_residual-in_err-register-in-Unary.ensures.1 in
    rw (p.1, p.2)
    (judged _ _ _ c.in-Unary.is refl (register_fails _ (not_0 c.in_err-register-in-Unary.field-0.0) c.in_err-register-in-Unary.ensures c.byte-a.ensures))

pub returns-in_ok-register-in-Unary : goal.returns-in_ok-register-in-Unary
returns-in_ok-register-in-Unary c =
    judged _ _ _ c.in-Unary.is refl (register_passes c.in_ok-register-in-Unary.ensures c.byte-a.ensures
    (register c.register-in-Unary-2.ensures c.byte-to.ensures (unused c.byte-number.type_inv c.byte-number.ensures refl)))

pub returns-in_err-register-in-Binary : goal.returns-in_err-register-in-Binary
returns-in_err-register-in-Binary c =
    let p = err_from_is_err_and c.from_residual-in_err-register-in-Binary.result c.from_residual-in_err-register-in-Binary.ensures.1 in
    rw (p.1, p.2)
    (judged _ _ _ c.in-Binary.is refl (register_fails _ (not_0 c.in_err-register-in-Binary.field-0.0) c.in_err-register-in-Binary.ensures c.byte-a.ensures))

pub returns-in_err-register-in-Binary-2 : goal.returns-in_err-register-in-Binary-2
returns-in_err-register-in-Binary-2 c =
    let p = err_from_is_err_and c.from_residual-in_err-register-in-Binary-2.result c.from_residual-in_err-register-in-Binary-2.ensures.1 in
    rw (p.1, p.2)
    (judged _ _ _ c.in-Binary.is refl (register_passes c.in_ok-register-in-Binary.ensures c.byte-a.ensures
    (register_fails _ (not_0 c.in_err-register-in-Binary-2.field-0.0) c.in_err-register-in-Binary-2.ensures c.byte-b.ensures)))

pub returns-in_ok-register-in-Binary-2 : goal.returns-in_ok-register-in-Binary-2
returns-in_ok-register-in-Binary-2 c =
    judged _ _ _ c.in-Binary.is refl (register_passes c.in_ok-register-in-Binary.ensures c.byte-a.ensures
    (register_passes c.in_ok-register-in-Binary-2.ensures c.byte-b.ensures
    (register c.register-in-Binary-3.ensures c.byte-to.ensures (unused c.byte-number.type_inv c.byte-number.ensures refl))))

pub returns-in_err-register-in-Ternary : goal.returns-in_err-register-in-Ternary
returns-in_err-register-in-Ternary c =
    let p = err_from_is_err_and c.from_residual-in_err-register-in-Ternary.result c.from_residual-in_err-register-in-Ternary.ensures.1 in
    rw (p.1, p.2)
    (judged _ _ _ c.in-Ternary.is refl (register_fails _ (not_0 c.in_err-register-in-Ternary.field-0.0) c.in_err-register-in-Ternary.ensures c.byte-a.ensures))

pub returns-in_err-register-in-Ternary-2 : goal.returns-in_err-register-in-Ternary-2
returns-in_err-register-in-Ternary-2 c =
    let p = err_from_is_err_and c.from_residual-in_err-register-in-Ternary-2.result c.from_residual-in_err-register-in-Ternary-2.ensures.1 in
    rw (p.1, p.2)
    (judged _ _ _ c.in-Ternary.is refl (register_passes c.in_ok-register-in-Ternary.ensures c.byte-a.ensures
    (register_fails _ (not_0 c.in_err-register-in-Ternary-2.field-0.0) c.in_err-register-in-Ternary-2.ensures c.byte-b.ensures)))

pub returns-in_err-register-in-Ternary-3 : goal.returns-in_err-register-in-Ternary-3
returns-in_err-register-in-Ternary-3 c =
    let p = err_from_is_err_and c.from_residual-in_err-register-in-Ternary-3.result c.from_residual-in_err-register-in-Ternary-3.ensures.1 in
    rw (p.1, p.2)
    (judged _ _ _ c.in-Ternary.is refl (register_passes c.in_ok-register-in-Ternary.ensures c.byte-a.ensures
    (register_passes c.in_ok-register-in-Ternary-2.ensures c.byte-b.ensures
    (register_fails _ (not_0 c.in_err-register-in-Ternary-3.field-0.0) c.in_err-register-in-Ternary-3.ensures c.byte-c.ensures))))

pub returns-in_ok-register-in-Ternary-3 : goal.returns-in_ok-register-in-Ternary-3
returns-in_ok-register-in-Ternary-3 c =
    judged _ _ _ c.in-Ternary.is refl (register_passes c.in_ok-register-in-Ternary.ensures c.byte-a.ensures
    (register_passes c.in_ok-register-in-Ternary-2.ensures c.byte-b.ensures
    (register_passes c.in_ok-register-in-Ternary-3.ensures c.byte-c.ensures
    (register c.register-in-Ternary-4.ensures c.byte-to.ensures (unused c.byte-number.type_inv c.byte-number.ensures refl)))))

pub returns-in_err-register-in-Shift : goal.returns-in_err-register-in-Shift
returns-in_err-register-in-Shift c =
    let p = err_from_is_err_and c.from_residual-in_err-register-in-Shift.result c.from_residual-in_err-register-in-Shift.ensures.1 in
    rw (p.1, p.2)
    (judged _ _ _ c.in-Shift.is refl (register_fails _ (not_0 c.in_err-register-in-Shift.field-0.0) c.in_err-register-in-Shift.ensures c.byte-a.ensures))

pub returns-in_err-register-in-Shift-2 : goal.returns-in_err-register-in-Shift-2
returns-in_err-register-in-Shift-2 c =
    let p = err_from_is_err_and c.from_residual-in_err-register-in-Shift-2.result c.from_residual-in_err-register-in-Shift-2.ensures.1 in
    rw (p.1, p.2)
    (judged _ _ _ c.in-Shift.is refl (register_passes c.in_ok-register-in-Shift.ensures c.byte-a.ensures
    (register_fails _ (not_0 c.in_err-register-in-Shift-2.field-0.0) c.in_err-register-in-Shift-2.ensures c.byte-to.ensures)))

pub returns-in_ok-register-in-Shift-2 : goal.returns-in_ok-register-in-Shift-2
returns-in_ok-register-in-Shift-2 c =
    judged _ _ _ c.in-Shift.is refl (register_passes c.in_ok-register-in-Shift.ensures c.byte-a.ensures
    (register_passes c.in_ok-register-in-Shift-2.ensures c.byte-to.ensures
    (unused c.byte-number.type_inv c.byte-number.ensures c.kind.ensures)))

pub returns-in-Test : goal.returns-in-Test
returns-in-Test c =
    judged _ _ _ c.in-Test.is refl (register c.register-in-Test.ensures c.byte-a.ensures (unused c.byte-number.type_inv c.byte-number.ensures refl))

pub returns-in_err-register-in-Splat : goal.returns-in_err-register-in-Splat
returns-in_err-register-in-Splat c =
    let p = err_from_is_err_and c.from_residual-in_err-register-in-Splat.result c.from_residual-in_err-register-in-Splat.ensures.1 in
    rw (p.1, p.2)
    (judged _ _ _ c.in-Splat.is refl (register_fails _ (not_0 c.in_err-register-in-Splat.field-0.0) c.in_err-register-in-Splat.ensures c.byte-to.ensures))

pub returns-in_ok-register-in-Splat : goal.returns-in_ok-register-in-Splat
returns-in_ok-register-in-Splat c =
    judged _ _ _ c.in-Splat.is refl (register_passes c.in_ok-register-in-Splat.ensures c.byte-to.ensures
    (unused c.byte-number.type_inv c.byte-number.ensures c.kind-in-Splat.ensures))

pub returns-in_err-register-in-Extract : goal.returns-in_err-register-in-Extract
returns-in_err-register-in-Extract c =
    let p = err_from_is_err_and c.from_residual-in_err-register-in-Extract.result c.from_residual-in_err-register-in-Extract.ensures.1 in
    rw (p.1, p.2)
    (judged _ _ _ c.in-Extract.is refl (register_fails _ (not_0 c.in_err-register-in-Extract.field-0.0) c.in_err-register-in-Extract.ensures c.byte-a.ensures))

pub returns-in_ok-register-in-Extract : goal.returns-in_ok-register-in-Extract
returns-in_ok-register-in-Extract c =
    judged _ _ _ c.in-Extract.is refl (register_passes c.in_ok-register-in-Extract.ensures c.byte-a.ensures
    (place _ c.lane.ensures c.byte-number.ensures refl))

pub returns-in_err-register-in-Replace : goal.returns-in_err-register-in-Replace
returns-in_err-register-in-Replace c =
    let p = err_from_is_err_and c.from_residual-in_err-register-in-Replace.result c.from_residual-in_err-register-in-Replace.ensures.1 in
    rw (p.1, p.2)
    (judged _ _ _ c.in-Replace.is refl (register_fails _ (not_0 c.in_err-register-in-Replace.field-0.0) c.in_err-register-in-Replace.ensures c.byte-a.ensures))

pub returns-in_err-register-in-Replace-2 : goal.returns-in_err-register-in-Replace-2
returns-in_err-register-in-Replace-2 c =
    let p = err_from_is_err_and c.from_residual-in_err-register-in-Replace-2.result c.from_residual-in_err-register-in-Replace-2.ensures.1 in
    rw (p.1, p.2)
    (judged _ _ _ c.in-Replace.is refl (register_passes c.in_ok-register-in-Replace.ensures c.byte-a.ensures
    (register_fails _ (not_0 c.in_err-register-in-Replace-2.field-0.0) c.in_err-register-in-Replace-2.ensures c.byte-to.ensures)))

pub returns-in_err-lane-in-Replace : goal.returns-in_err-lane-in-Replace
returns-in_err-lane-in-Replace c =
    let p = err_from_is_err_and c.from_residual-in_err-lane-in-Replace.result c.from_residual-in_err-lane-in-Replace.ensures.1 in
    rw (p.1, p.2)
    (judged _ _ _ c.in-Replace.is refl (register_passes c.in_ok-register-in-Replace.ensures c.byte-a.ensures
    (register_passes c.in_ok-register-in-Replace-2.ensures c.byte-to.ensures
    (place_fails _ _ (not_0 c.in_err-lane-in-Replace.field-0.0) c.in_err-lane-in-Replace.ensures c.byte-number.ensures))))

pub returns-in_ok-lane-in-Replace : goal.returns-in_ok-lane-in-Replace
returns-in_ok-lane-in-Replace c =
    judged _ _ _ c.in-Replace.is refl (register_passes c.in_ok-register-in-Replace.ensures c.byte-a.ensures
    (register_passes c.in_ok-register-in-Replace-2.ensures c.byte-to.ensures
    (place_passes _ c.in_ok-lane-in-Replace.ensures c.byte-number.ensures
    c.kind-in-Replace.ensures)))

-- `calculator::run::steps` meets its contract: what is left of the run from the state that is left is the run. Assumes nothing.
use mathlib.Core.Path.{◌≡◌, sym, ◌∙◌}
use Prim.Native.Nat.{◌+◌, ◌/◌, ◌*◌, ◌-◌, ◌<◌}
use native.Mathlib.Omega.{arith}
use lib.ListN.{length, take, drop}
use Rattle.standard.specs.Refusal.{given, refused}
use Rattle.standard_refusal.specs.Number.{number_of}
use Rattle.calculator_rules.specs.Definition.{step}
use Rattle.calculator_state.specs.State.{held}
use Rattle.calculator.proofs.Runs.{starts, turn, stop, stops_here}
use Rattle.calculator.proofs.run.steps.Goals as goal

pub loop-at-init : goal.loop-at-init
loop-at-init c =
    let a = c.args in
    (omega arith, omega (arith, c.stop-end.ensures), starts (length a.list.now / 32) a.place a.limit a.list.now _)

pub returns-in-Err : goal.returns-in-Err
returns-in-Err c =
    let l = c.loop-at in
    let s = c.stop-end in
    let a = c.args in
    let list = a.list.now in
    let n = length list / 32 in
    let more : l.at < n = omega (arith, s.ensures) in
    let allowed : l.at < a.place + a.limit = omega (arith, s.ensures) in
    let part : 32 * l.at + 32 - 32 * l.at ≡ 32 = omega arith in
    let e : step l.at (held l.w l.writers l.scalar) (take 32 (drop (32 * l.at) list)) ≡ refused (number_of c.in-Err.refusal) =
    (rw part at (sym c.in-Err.ensures.result)) in
    let left = c.in-Err.ensures.left in
    rw (left.0, left.1)
    (sym (stop n a.place a.limit l.at list (held l.w l.writers l.scalar) l.invariant.0 more allowed _ e) ∙ l.invariant.2)

pub loop-at-preserved : goal.loop-at-preserved
loop-at-preserved c =
    let l = c.loop-at in
    let s = c.stop-end in
    let a = c.args in
    let list = a.list.now in
    let n = length list / 32 in
    let more : l.at < n = omega (arith, s.ensures) in
    let allowed : l.at < a.place + a.limit = omega (arith, s.ensures) in
    let part : 32 * l.at + 32 - 32 * l.at ≡ 32 = omega arith in
    let e : step l.at (held l.w l.writers l.scalar) (take 32 (drop (32 * l.at) list))
    ≡ given (held c.step.new.w c.step.new.writers c.in-Ok.left.scalar) =
    (rw part at (sym c.in-Ok.ensures.result)) in
    (omega arith, omega arith, sym (turn n a.place a.limit l.at list (held l.w l.writers l.scalar) l.invariant.0 more allowed _ e) ∙ l.invariant.2)

pub returns : goal.returns
returns c =
    let l = c.loop-at in
    let s = c.stop-end in
    let a = c.args in
    let list = a.list.now in
    let n = length list / 32 in
    let ended : s.result ≡ l.at = omega arith in
    let met : l.at < n → l.at ≡ a.place + a.limit = λ h. omega (arith, s.ensures) in
    rw (c.stopped_at.ensures, ended)
    (sym (stops_here n a.place a.limit l.at list (held l.w l.writers l.scalar) l.invariant.0 met) ∙ l.invariant.2)

-- `calculator_rules::fields::indices` meets its contract: its first i bytes are gathered. Assumes nothing.
use mathlib.Core.Path.{◌≡◌, refl, sym, ◌∙◌}
use Prim.Native.Nat.{◌≤◌, ◌<◌}
use native.Mathlib.Omega.{arith}
use lib.ListN.{length, length-set}
use lib.Seq.{take_all}
use Rattle.calculator_rules.proofs.Gathered.{gathered}
use Rattle.calculator_rules.proofs.fields.indices.Goals as goal

pub loop-i-init : goal.loop-i-init
loop-i-init c = (omega arith, refl, refl)

pub overflow_add-i : goal.overflow_add-i
overflow_add-i c = omega arith

pub bounds-r-i : goal.bounds-r-i
bounds-r-i c = omega arith

pub overflow_step-i : goal.overflow_step-i
overflow_step-i c = omega arith

pub loop-i-smaller : goal.loop-i-smaller
loop-i-smaller c = omega arith

pub loop-i-preserved : goal.loop-i-preserved
loop-i-preserved c =
    let l = c.loop-i in
    let s = c.args.s.now in
    let h : l.i < length l.r = omega arith in
    (omega arith, simp length-set l.invariant.1, rw c.byte.ensures (gathered s l.r 16 l.i h l.invariant.2))

pub returns : goal.returns
returns c =
    let l = c.loop-i in
    let h : length l.r ≤ 16 = omega arith in
    let e : l.i ≡ 16 = omega arith in
    sym (take_all 16 l.r h) ∙ (rw e at l.invariant.2)

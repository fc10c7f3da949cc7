-- `calculator_state::registers::words` meets its contract: the first i registers are copied. Assumes nothing.
use mathlib.Core.Path.{◌≡◌, refl, sym, ◌∙◌}
use mathlib.Core.List.{map}
use Prim.Native.Nat.{◌%◌, ◌≤◌, ◌<◌}
use native.Mathlib.Omega.{arith}
use borrow.Author.Rules.{rules}
use lib.ListN.{length, get_or, set, length-set, length-map, get_or-map}
use lib.Seq.{take_all}
use Rattle.simd.specs.Number.{number}
use Rattle.calculator_state.specs.State.{vectors}
use Rattle.calculator_state.proofs.Words.{copied}
use Rattle.calculator_state.proofs.registers.words.Goals as goal

pub loop-i-preserved : goal.loop-i-preserved
loop-i-preserved c =
    let l = c.loop-i in
    let all = c.args.all in
    let e : l.i % 16 ≡ l.i = omega arith in
    let p : vectors c.put.new.w ≡ set (vectors l.w) l.i (get_or (map number all) l.i 0) = c.put.ensures
    ∙ rw (e, ← get_or-map number all l.i (record { lo = 0; hi = 0 })) in
    let h : l.i < length (vectors l.w) = omega arith in
    let g : length all ≡ 16 = search rules in
    let k : l.i < length (map number all) = simp length-map (omega arith) in
    (omega arith, rw (p, length-set) l.invariant.1, rw p (copied (vectors l.w) (map number all) l.i h k l.invariant.2))

pub returns : goal.returns
returns c =
    let l = c.loop-i in
    let all = c.args.all in
    let e : l.i ≡ 16 = omega arith in
    let h : length (vectors l.w) ≤ 16 = omega arith in
    let g : length all ≡ 16 = search rules in
    let k : length (map number all) ≤ 16 = simp length-map (omega arith) in
    sym (take_all 16 (vectors l.w) h) ∙ (rw e at l.invariant.2) ∙ take_all 16 (map number all) k

pub loop-i-init : goal.loop-i-init
loop-i-init c = (omega arith, refl, refl)

pub offset_bounds-all-i : goal.offset_bounds-all-i
offset_bounds-all-i c = omega arith

pub bounds-all-i : goal.bounds-all-i
bounds-all-i c = omega arith

pub overflow_cast-i : goal.overflow_cast-i
overflow_cast-i c = omega arith

pub overflow_step-i : goal.overflow_step-i
overflow_step-i c = omega arith

pub loop-i-smaller : goal.loop-i-smaller
loop-i-smaller c = omega arith

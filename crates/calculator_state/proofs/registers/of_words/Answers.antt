-- `calculator_state::registers::of_words` meets its contract: the first i registers are copied. Assumes nothing.
use mathlib.Core.Path.{◌≡◌, refl, sym, ◌∙◌}
use mathlib.Core.List.{map}
use Prim.Native.Nat.{◌%◌, ◌≤◌, ◌<◌}
use native.Mathlib.Omega.{arith}
use borrow.Author.Rules.{rules}
use lib.ListN.{length, get_or, set, length-set}
use lib.Seq.{take_all}
use Rattle.simd.specs.Number.{number}
use Rattle.calculator_state.specs.State.{vectors}
use Rattle.calculator_state.proofs.Words.{copied, half, map_set}
use Rattle.calculator_state.proofs.registers.of_words.Goals as goal

pub loop-i-preserved : goal.loop-i-preserved
loop-i-preserved c =
    let l = c.loop-i in
    let w = c.args.w in
    let e : l.i % 16 ≡ l.i = omega arith in
    let x : number c.get.result ≡ get_or (vectors w) l.i 0 = c.get.ensures ∙ rw e in
    let p : map number (set l.all l.i c.get.result) ≡ set (map number l.all) l.i (get_or (vectors w) l.i 0) = rw (map_set, x) in
    let h : l.i < length (map number l.all) = omega arith in
    let g : length (vectors w) ≡ 16 = half 16 w (search rules) in
    let k : l.i < length (vectors w) = omega arith in
    (omega arith, rw (p, length-set) l.invariant.1, rw p (copied (map number l.all) (vectors w) l.i h k l.invariant.2))

pub returns : goal.returns
returns c =
    let l = c.loop-i in
    let w = c.args.w in
    let e : l.i ≡ 16 = omega arith in
    let h : length (map number l.all) ≤ 16 = omega arith in
    let g : length (vectors w) ≡ 16 = half 16 w (search rules) in
    let k : length (vectors w) ≤ 16 = omega arith in
    sym (take_all 16 (map number l.all) h) ∙ (rw e at l.invariant.2) ∙ take_all 16 (vectors w) k

pub loop-i-init : goal.loop-i-init
loop-i-init c = (omega arith, refl, refl)

pub overflow_cast-i : goal.overflow_cast-i
overflow_cast-i c = omega arith

pub offset_bounds-all-i : goal.offset_bounds-all-i
offset_bounds-all-i c = omega arith

pub bounds-all-i : goal.bounds-all-i
bounds-all-i c = omega arith

pub overflow_step-i : goal.overflow_step-i
overflow_step-i c = omega arith

pub loop-i-smaller : goal.loop-i-smaller
loop-i-smaller c = omega arith

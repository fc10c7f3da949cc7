-- `program_scan::judge` meets its contract. Assumes nothing.
use Prim.Native.Nat.{ℕ}
use mathlib.Core.Path.{◌≡◌, refl, ap, ◌∙◌}
use native.Mathlib.Omega.{arith}
use borrow.Author.Count.{below_none, below_more}
use lib.ListN.{get_or, length-set}
use lib.Seq.{get_or-set_same, get_or-set_other}
use Rattle.program_scan.specs.Pen.{coded}
use Rattle.program_scan.proofs.judge.Goals as goal

pub loop-i-init : goal.loop-i-init
loop-i-init c = (omega arith, refl, below_none _, λ j h. refl)

pub code-requires : goal.code-requires
code-requires c =
    let loop = c.loop-i in
    let small = c.requires.at_most_32 loop.i (omega arith) in record {
      first_bound = small.0;
      second_bound = rw (loop.invariant.3 loop.i (omega arith)) small.1;
    }

pub loop-i-preserved : goal.loop-i-preserved
loop-i-preserved c =
    let given = c.args in
    let loop = c.loop-i in
    let inv = loop.invariant in
    let here = inv.3 loop.i (omega arith) in (
      omega arith,
      simp length-set inv.1,
      below_more _ loop.i (λ j h. get_or-set_other loop.second loop.i j _ 0 (λ e. omega arith) ∙ inv.2 j h)
          (get_or-set_same loop.second loop.i c.code.result 0 (omega (arith, inv.1)) ∙ c.code.ensures
          ∙ ap (λ (e : ℕ). coded (get_or given.first.now loop.i 0) e given.tolerance) here),
      λ j h. get_or-set_other loop.second loop.i j _ 0 (λ e. omega arith) ∙ inv.3 j (omega arith),
    )

pub returns : goal.returns
returns c =
    let all : c.loop-i.i ≡ 256 = omega arith in
    rw all at c.loop-i.invariant.2

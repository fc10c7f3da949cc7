-- `array_reorder::all_legal` meets its contract: a loop over the indices. Assumes nothing.
use borrow.Author.Rules.{rules}
use mathlib.Core.Path.{refl, sym, ◌∙◌}
use native.Mathlib.Nat.{le_of_eq, le_trans}
use Rattle.standard.proofs.Rearrange.{index_passes, index_stops, all_pass}
use Rattle.array_reorder.proofs.all_legal.Goals as goal

pub loop-i-init : goal.loop-i-init
loop-i-init c = (search rules, refl)

pub returns-then-s-i-gt31 : goal.returns-then-s-i-gt31
returns-then-s-i-gt31 c = sym (index_stops c.args.s c.loop-i.i (search rules) c.if-s-i-gt31.true)
    ∙ c.loop-i.invariant.1

pub loop-i-preserved : goal.loop-i-preserved
loop-i-preserved c = (
  search rules,
  sym (index_passes c.args.s c.loop-i.i (search rules) c.if-s-i-gt31.false)
      ∙ c.loop-i.invariant.1,
)

pub returns : goal.returns
returns c = all_pass c.args.s c.loop-i.i (le_trans (le_of_eq (search rules)) c.loop-i-test.false) c.loop-i.invariant.1

-- `array_reorder::picked` meets its contract: a loop that fills the lanes. Assumes nothing.
use borrow.Author.Rules.{rules}
use Prim.Native.Nat.{◌%◌}
use mathlib.Core.Path.{refl}
use lib.ListN.{get_or}
use Rattle.standard.proofs.Loop.{fill_turn, filled}
use Rattle.array_reorder.proofs.picked.Goals as goal

pub loop-i-init : goal.loop-i-init
loop-i-init c = (search rules, refl)

pub loop-i-preserved : goal.loop-i-preserved
loop-i-preserved c = (
  search rules,
  fill_turn 16 (λ y. get_or c.args.t (y % 32) 0) _ c.args.s refl (search rules)
      (search rules) c.loop-i.invariant.1 refl,
)

pub returns : goal.returns
returns c = filled 16 (λ y. get_or c.args.t (y % 32) 0) _ c.args.s refl (search rules) c.loop-i.i
    (search rules) c.loop-i.invariant.1

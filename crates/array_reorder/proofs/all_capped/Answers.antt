-- `array_reorder::all_capped` meets its contract: a loop that fills the places. Assumes nothing.
use borrow.Author.Rules.{rules}
use mathlib.Core.Path.{refl}
use Rattle.standard.specs.Integer.{imin_u}
use Rattle.standard.proofs.Loop.{fill_turn, filled}
use Rattle.array_reorder.proofs.all_capped.Goals as goal

pub loop-i-init : goal.loop-i-init
loop-i-init c = (search rules, refl)

pub loop-i-preserved : goal.loop-i-preserved
loop-i-preserved c = (
  search rules,
  fill_turn 64 (λ y. imin_u 8 y 16) _ c.args.s refl (search rules) (search rules)
      c.loop-i.invariant.1 c.capped.ensures,
)

pub returns : goal.returns
returns c = filled 64 (λ y. imin_u 8 y 16) _ c.args.s refl (search rules) c.loop-i.i (search rules) c.loop-i.invariant.1

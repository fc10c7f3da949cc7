-- `array_reorder::first` meets its contract: a loop that copies sixteen bytes. Assumes nothing.
use borrow.Author.Rules.{rules}
use mathlib.Core.Path.{refl, ◌∙◌}
use mathlib.Core.List.{append-nil}
use Rattle.standard.proofs.Loop.{copy_turn, copy_done}
use Rattle.array_reorder.proofs.first.Goals as goal

pub loop-i-init : goal.loop-i-init
loop-i-init c = (search rules, refl)

pub loop-i-preserved : goal.loop-i-preserved
loop-i-preserved c = (search rules, copy_turn 16 _ c.args.s (search rules) (search rules) (search rules) c.loop-i.invariant.1)

pub returns : goal.returns
returns c = copy_done 16 _ c.args.s (search rules) (search rules) c.loop-i.i (search rules) c.loop-i.invariant.1
    ∙ append-nil _

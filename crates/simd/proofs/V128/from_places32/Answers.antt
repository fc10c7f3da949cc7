-- `simd::V128::from_places32` meets its contract: a loop that copies the lanes. Assumes nothing.
use borrow.Author.Rules.{rules}
use mathlib.Core.Path.{refl, ap, ◌∙◌}
use mathlib.Core.List.{append-nil}
use lib.ListN.{replicate, take}
use Rattle.standard.specs.Lanes.{joined}
use Rattle.standard.proofs.Loop.{copy_turn, copy_done}
use Rattle.simd.proofs.V128.from_places32.Goals as goal

pub loop-i-init : goal.loop-i-init
loop-i-init c = (search rules, refl)

pub loop-i-preserved : goal.loop-i-preserved
loop-i-preserved c = (search rules, copy_turn 4 (replicate 4 0) c.args.s (search rules) (search rules) (search rules) c.loop-i.invariant.1)

pub returns : goal.returns
returns c =
    c.join32.ensures
    ∙ ap (joined 32) (copy_done 4 (replicate 4 0) c.args.s (search rules) (search rules) c.loop-i.i
    (search rules) c.loop-i.invariant.1 ∙ append-nil (take 4 c.args.s))

-- `lane_float_narrow::sizes` meets its contract: a loop over the lanes and the idle places. Assumes nothing.
use mathlib.Core.Path.{refl, ap, ◌∙◌}
use mathlib.Core.List.{List, map}
use Prim.Native.Nat.{ℕ}
use lib.ListN.{replicate}
use Rattle.standard.proofs.Halves.{elements, all_elements}
use Rattle.standard.proofs.Loop.{fill_turn, filled}
use borrow.Author.Rules.{rules}
use Rattle.lane_float_narrow.proofs.sizes.Goals as goal

pub loop-i-init : goal.loop-i-init
loop-i-init c = (search rules, refl)

pub loop-i-preserved : goal.loop-i-preserved
loop-i-preserved c = (search rules, fill_turn 64 _ (replicate 64 0) _ refl refl (search rules) c.loop-i.invariant.1 c.magnitude.ensures)

pub returns : goal.returns
returns c =
    ap (λ (r : List ℕ). elements r 0 4) (filled 64 _ (replicate 64 0) _ refl refl c.loop-i.i (search rules) c.loop-i.invariant.1)
    ∙ ap (map _) (all_elements c.args.a 4 (search rules))

-- `row_vectors::i8x16_popcnt` meets its contract: a loop over the vectors, with the row beside itself for a second. Assumes nothing.
use mathlib.Core.Path.{refl}
use borrow.Author.Rules.{rules}
use Rattle.standard.specs.Integer.{ipopcnt}
use Rattle.standard.specs.Lanes.{unary}
use Rattle.row_vectors.proofs.Numbers.{alone, none, turned, all_turned, mapped}
use Rattle.row_vectors.proofs.i8x16_popcnt.Goals as goal

pub loop-a-init : goal.loop-a-init
loop-a-init c = (search rules, (refl, (refl, refl)))

pub loop-a-preserved : goal.loop-a-preserved
loop-a-preserved c = turned (alone (unary 8 (ipopcnt 8))) _ _ _ _ none _ c.loop-a.invariant (search rules) (search rules)

pub returns : goal.returns
returns c = mapped _ _ _ (all_turned (alone (unary 8 (ipopcnt 8))) _ _ _ c.loop-a.a-index (search rules) c.loop-a.invariant)

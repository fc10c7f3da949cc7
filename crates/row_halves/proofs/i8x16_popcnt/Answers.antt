-- `row_halves::i8x16_popcnt` meets its contract: a loop over the halves, with the row beside itself for a second. Assumes nothing.
use mathlib.Core.Path.{refl, sym}
use borrow.Author.Rules.{rules}
use Rattle.row_halves.proofs.Pairs.{fits, turned, all_counted, kept}
use Rattle.row_halves.proofs.i8x16_popcnt.Goals as goal

pub returns-in_err-judge-clause-first_after : goal.returns-in_err-judge-clause-first_after
returns-in_err-judge-clause-first_after c = kept _ _ _ c.from_residual.ensures.0

pub loop-half-init : goal.loop-half-init
loop-half-init c = (search rules, (refl, (refl, refl)))

pub loop-half-preserved : goal.loop-half-preserved
loop-half-preserved c =
    let loop = c.loop-half in
    turned _ _ _ loop.first loop.half-index c.popcnt8.result loop.invariant c.loop-half-test.true (search rules)
    (search rules) c.popcnt8.type_inv c.popcnt8.ensures

pub returns-clause-first_after : goal.returns-clause-first_after
returns-clause-first_after c = all_counted _ _ c.loop-half.half-index (fits _ _ (sym c.in_ok-judge.ensures)).1 c.loop-half-test.false c.loop-half.invariant

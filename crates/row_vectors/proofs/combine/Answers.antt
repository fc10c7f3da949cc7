-- `row_vectors::combine` meets its contract: a loop over the vectors. Assumes nothing.
use mathlib.Core.Path.{refl}
use borrow.Author.Rules.{rules}
use Rattle.row_vectors.proofs.Numbers.{none, turned, all_turned, combined, uneven}
use Rattle.row_vectors.proofs.combine.Goals as goal

pub returns-then-first-second : goal.returns-then-first-second
returns-then-first-second g c = λ h each. uneven h _ _ c.if-first-second.true

pub loop-i-init : goal.loop-i-init
loop-i-init g c = λ h each. (search rules, (refl, (c.if-first-second.false, refl)))

pub loop-i-preserved : goal.loop-i-preserved
loop-i-preserved g c = λ h each. turned h _ _ _ _ none _ (c.loop-i.invariant h each) (search rules) (each _ _ _ c.f.ensures)

pub returns : goal.returns
returns g c = λ h each. combined _ _ _ _ c.if-first-second.false (all_turned h _ _ _ c.loop-i.i (search rules) (c.loop-i.invariant h each))

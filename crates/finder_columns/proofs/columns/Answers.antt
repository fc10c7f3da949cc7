-- `finder_columns::columns` meets its contract. Assumes nothing.
use mathlib.Core.Path.{refl}
use native.Mathlib.Omega.{arith}
use borrow.Author.Rules.{rules}
use Rattle.finder_columns.proofs.Table.{no_slack}
use Rattle.finder_columns.proofs.columns.Goals as goal

pub fill-requires : goal.fill-requires
fill-requires c = record { q_bound = search rules; above_value = c.start-first.ensures; made = (refl, λ j h. absurd (omega arith)) }

pub loop-q-init : goal.loop-q-init
loop-q-init c = (search rules, search rules, c.fill.ensures)

pub fill-requires-in-loop-q : goal.fill-requires-in-loop-q
fill-requires-in-loop-q c = record { q_bound = search rules; above_value = no_slack _ _ (omega arith); made = c.loop-q.invariant.2 }

pub loop-q-preserved : goal.loop-q-preserved
loop-q-preserved c = (search rules, search rules, c.fill-in-loop-q.ensures)

pub returns : goal.returns
returns c = (search rules, λ j h. c.loop-q.invariant.2.1 j (omega arith))

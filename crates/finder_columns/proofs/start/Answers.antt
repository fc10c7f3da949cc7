-- `finder_columns::start` meets its contract. Assumes nothing.
use native.Mathlib.Omega.{arith}
use Rattle.finder_columns.specs.Columns.{eight, row, slack}
use Rattle.finder_columns.proofs.start.Goals as goal

pub returns-then-tolerance-lt127 : goal.returns-then-tolerance-lt127
unfolding eight row slack
returns-then-tolerance-lt127 c = omega arith

pub returns-else-tolerance-lt127 : goal.returns-else-tolerance-lt127
unfolding eight row slack
returns-else-tolerance-lt127 c = omega arith

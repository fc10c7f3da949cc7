-- `check_rows::main` is safe and ends: the turns count down. Assumes nothing.
use Rattle.check_rows.proofs.main.Given as goal

abbrev pub decreases-loop-turns : goal.decreases-loop-turns
decreases-loop-turns l = l.turns

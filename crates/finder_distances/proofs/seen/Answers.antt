-- `finder_distances::seen` meets its contract. Assumes nothing.
use native.Mathlib.Omega.{arith}
use Rattle.finder_distances.proofs.Numbers.{shifted, shifted_lt}
use Rattle.finder_distances.proofs.seen.Goals as goal

pub overflow_add-result : goal.overflow_add-result
overflow_add-result c = record { fits = shifted_lt c.args.head c.args.next c.args.shift (omega arith) (omega arith) }

pub returns : goal.returns
returns c = shifted c.args.head c.args.next c.args.shift (omega arith) (omega arith)

-- `packed_reduce::any_true` meets its contract. Assumes nothing.
use lib.Dec.{eqb}
use Rattle.standard.specs.Vector.{any_true}
use Rattle.packed_half.proofs.Whole.{not_test}
use Rattle.packed_reduce.proofs.any_true.Goals as goal

pub returns : goal.returns
unfolding any_true
returns c = not_test (eqb c.args.a 0)

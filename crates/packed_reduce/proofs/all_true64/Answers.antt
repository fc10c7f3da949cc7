-- `packed_reduce::all_true64` meets its contract: the half is one lane. Assumes nothing.
use lib.Dec.{eqb}
use native.Mathlib.Nat.{mod-eq_of_lt}
use Rattle.packed_half.specs.Half.{half_all_true}
use Rattle.packed_half.proofs.Whole.{not_test}
use Rattle.packed_reduce.proofs.all_true64.Goals as goal

pub returns : goal.returns
unfolding half_all_true
returns c = rw (mod-eq_of_lt c.ranges.a.fits) (not_test (eqb c.args.a 0))

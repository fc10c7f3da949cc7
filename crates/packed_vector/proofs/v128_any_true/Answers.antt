-- `packed_vector::v128_any_true` meets its contract. Assumes nothing.
use Rattle.packed_vector.proofs.Both.{both_any_true}
use Rattle.packed_vector.proofs.v128_any_true.Goals as goal

pub returns : goal.returns
returns c = both_any_true _ _ c.any_true.result c.any_true.ensures

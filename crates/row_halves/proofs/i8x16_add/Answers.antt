-- `row_halves::i8x16_add` meets its contract. Assumes nothing.
use mathlib.Core.Path.{refl}
use Rattle.standard.specs.Integer.{iadd}
use Rattle.standard.specs.Lanes.{binary}
use Rattle.packed_half.specs.Half.{half_binary}
use Rattle.row_halves.specs.Rows.{ByHalves}
use Rattle.standard.proofs.Halves.{binary_halves}
use Rattle.row_halves.proofs.i8x16_add.Goals as goal

added : ByHalves (binary 8 (iadd 8)) (half_binary 8 (iadd 8))
unfolding half_binary
added a b c d ha hc = binary_halves 8 8 refl refl a b ha (iadd 8) c d hc refl refl

pub returns-clause-first_after : goal.returns-clause-first_after
returns-clause-first_after c = c.combine.ensures.first_after _ _ added (λ x y r hx hy p. p)

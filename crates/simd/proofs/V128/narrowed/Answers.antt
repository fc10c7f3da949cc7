-- `simd::V128::narrowed` meets its contract. Assumes nothing.
use borrow.Author.Rules.{rules}
use Rattle.simd.proofs.Extended.{narrows}
use Rattle.simd.proofs.V128.narrowed.Goals as goal

pub returns : goal.returns
returns g c = λ f lt k. narrows _ c.requires.halves f lt _ _ _ c.requires.double _ _ (search rules) c.of_places.ensures (c.at_each.ensures f k)

-- `simd::V128::widen` meets its contract. Assumes nothing.
use borrow.Author.Rules.{rules}
use mathlib.Core.Path.{◌∙◌}
use Rattle.simd.proofs.Extended.{widens}
use Rattle.simd.proofs.V128.widen.Goals as goal

pub returns : goal.returns
returns g c = λ sx k. c.of_places.ensures ∙ widens _ c.requires.halves sx _ _ _ (search rules) c.requires.double (c.at_each.ensures (sx _ _) k)

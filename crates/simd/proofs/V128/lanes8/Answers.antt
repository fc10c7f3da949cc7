-- `simd::V128::lanes8` meets its contract: the lanes of both halves. Assumes nothing.
use borrow.Author.Rules.{rules}
use mathlib.Core.Path.{refl, sym, ◌∙◌}
use Rattle.standard.proofs.Halves.{lanes_halves}
use Rattle.simd.proofs.V128.lanes8.Goals as goal

pub returns : goal.returns
returns c = c.split8.ensures ∙ sym (lanes_halves 8 8 refl refl _ _ (search rules))

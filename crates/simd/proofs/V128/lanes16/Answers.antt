-- `simd::V128::lanes16` meets its contract: the lanes of both halves. Assumes nothing.
use borrow.Author.Rules.{rules}
use mathlib.Core.Path.{refl, sym, ◌∙◌}
use Rattle.standard.proofs.Halves.{lanes_halves}
use Rattle.simd.proofs.V128.lanes16.Goals as goal

pub returns : goal.returns
returns c = c.split16.ensures ∙ sym (lanes_halves 16 4 refl refl _ _ (search rules))

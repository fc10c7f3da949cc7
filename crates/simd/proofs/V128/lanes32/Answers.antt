-- `simd::V128::lanes32` meets its contract: the lanes of both halves. Assumes nothing.
use borrow.Author.Rules.{rules}
use mathlib.Core.Path.{refl, sym, ◌∙◌}
use Rattle.standard.proofs.Halves.{lanes_halves}
use Rattle.simd.proofs.V128.lanes32.Goals as goal

pub returns : goal.returns
returns c = c.split32.ensures ∙ sym (lanes_halves 32 2 refl refl _ _ (search rules))

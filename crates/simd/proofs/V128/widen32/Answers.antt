-- `simd::V128::widen32` meets its contract. Assumes nothing.
use borrow.Author.Rules.{rules}
use mathlib.Core.Path.{◌∙◌, ap}
use Rattle.standard.proofs.Widths.{widened_32}
use Rattle.simd.proofs.V128.widen32.Goals as goal

pub returns : goal.returns
returns g c = λ sx k. widened_32 sx _ (search rules) (k _ _ c.f.ensures ∙ ap (sx 32 64) c.low.ensures) (k _ _ c.f-2.ensures ∙ ap (sx 32 64) c.high.ensures)

-- `gatulefo::rearrange::gatulefo_value_i8x16_shuffle` meets its contract: the answer of `i8x16_shuffle` by the lanes of the third vector, as C is handed it.
-- Assumes nothing.
use Rattle.std.proofs.Common.{ℕ, List, ap, ◌∙◌}
use Rattle.standard.specs.Refusal.{at_indices}
use Rattle.standard.specs.Vector.{shuffle}
use Rattle.simd.specs.Number.{number}
use Rattle.link_answers.specs.Handed.{or_zero}
use Rattle.gatulefo.proofs.rearrange.gatulefo_value_i8x16_shuffle.Goals as goal

pub returns : goal.returns
returns c =
    c.vector_or_zero.ensures
    ∙ ap or_zero (c.i8x16_shuffle.ensures ∙ ap (λ (s : List ℕ). at_indices s (shuffle s (number c.args.a) (number c.args.b))) c.lanes8.ensures)

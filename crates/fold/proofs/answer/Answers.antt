-- `fold::answer` meets its contract. Assumes nothing.
use native.Mathlib.Omega.{arith}
use lib.ListN.{length-take}
use Rattle.fold.specs.Text.{text}
use Rattle.fold.proofs.answer.Goals as goal

pub slice_bounds-fold-end : goal.slice_bounds-fold-end
slice_bounds-fold-end c = omega (
  arith,
  length-take c.links_in-count.result
      c.links_of-links.result,
  c.links_of-links.type_inv,
  c.links_in-count.ensures.upper_bound,
)

pub returns : goal.returns
unfolding text
returns c =
    rw (
      ← c.links_in-count.ensures.value,
      ← c.links_of-links.ensures,
      ← c.fold.ensures.value,
      ← c.fold.ensures.out_after,
      ← c.code-refused.ensures,
    ) c.fold-2.ensures

-- `packed_compare::eq64` meets its contract: the half is one lane. Assumes nothing.
use mathlib.Core.Path.{sym, ap, ◌∙◌}
use borrow.Author.Tests.{eq-eqb, ne_eqb}
use Rattle.standard.specs.Integer.{ieq, truth}
use Rattle.packed_half.specs.Half.{half_binary}
use Rattle.packed_half.proofs.Whole.{one_pair}
use Rattle.packed_compare.proofs.eq64.Goals as goal

pub returns-then-a-b : goal.returns-then-a-b
unfolding half_binary
returns-then-a-b c = sym (one_pair 64 (ieq 64) _ _ c.ranges.a.fits c.ranges.b.fits ∙ ap (truth 64) (eq-eqb _ _ c.if-a-b.true))

pub returns-else-a-b : goal.returns-else-a-b
unfolding half_binary
returns-else-a-b c = sym (one_pair 64 (ieq 64) _ _ c.ranges.a.fits c.ranges.b.fits ∙ ap (truth 64) (ne_eqb _ _ c.if-a-b.false))

-- `packed_sum::arithmetic::add64` meets its contract: the half is one lane. Assumes nothing.
use Rattle.std.proofs.Common.{sym, ◌∙◌}
use Rattle.standard.specs.Integer.{iadd}
use Rattle.packed_half.specs.Half.{half_binary}
use Rattle.packed_half.proofs.Whole.{one_pair}
use Rattle.packed_sum.proofs.arithmetic.add64.Goals as goal

pub returns : goal.returns
unfolding half_binary
returns c = c.wrapping_add_u64.ensures.value ∙ sym (one_pair 64 (iadd 64) _ _ c.ranges.a.fits c.ranges.b.fits)

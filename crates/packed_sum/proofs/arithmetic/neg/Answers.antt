-- `packed_sum::arithmetic::neg` meets its contract, by the laws of packed differences: zero less each lane. Assumes nothing.
use mathlib.Core.Path.{◌∙◌}
use Rattle.std.proofs.Common.{◌+◌}
use Rattle.packed_half.specs.Half.{half_unary, half_binary}
use Rattle.packed_half.proofs.Whole.{negated}
use Rattle.packed_sum.proofs.arithmetic.neg.Goals as goal

pub returns : goal.returns
unfolding half_unary half_binary
returns g c = c.sub.ensures ∙ negated (1 + g.L.Lanes.LOW_BITS) _ c.args.a

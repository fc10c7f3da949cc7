-- `packed_sum::arithmetic::neg64` meets its contract: zero less each of 1 lanes of 64 bits. Assumes nothing.
use Rattle.std.proofs.Common.{◌∙◌}
use Rattle.packed_half.specs.Half.{half_unary, half_binary}
use Rattle.packed_half.proofs.Whole.{negated}
use Rattle.packed_sum.proofs.arithmetic.neg64.Goals as goal

pub returns : goal.returns
unfolding half_unary half_binary
returns c = c.sub64.ensures ∙ negated 64 1 c.args.a

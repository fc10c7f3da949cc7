-- `packed_sum::arithmetic::sub64` meets its contract: the half is one lane. Assumes nothing.
use Rattle.std.proofs.Common.{◌≡◌, sym, ◌∙◌, arith}
use Rattle.standard.specs.Integer.{isub}
use Rattle.packed_half.specs.Half.{half_binary}
use Rattle.packed_half.proofs.Whole.{one_pair}
use Rattle.packed_sum.proofs.arithmetic.sub64.Goals as goal

pub returns : goal.returns
unfolding half_binary
returns c =
    let e : c.wrapping_sub_u64.result ≡ isub 64 c.args.a c.args.b = omega arith in
    e ∙ sym (one_pair 64 (isub 64) _ _ c.ranges.a.fits c.ranges.b.fits)

-- `packed_shift::shr_u64` meets its contract: the half is one lane. Assumes nothing.
use mathlib.Core.Path.{sym}
use Rattle.standard.specs.Integer.{ishr_u}
use Rattle.packed_half.specs.Half.{half_unary}
use Rattle.packed_half.proofs.Whole.{one_lane}
use Rattle.packed_shift.proofs.shr_u64.Goals as goal

pub returns : goal.returns
unfolding half_unary
returns c = sym (one_lane 64 64 (ishr_u 64 c.args.count) _ c.ranges.a.fits)

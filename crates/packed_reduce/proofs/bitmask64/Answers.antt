-- `packed_reduce::bitmask64` meets its contract: the half is one lane. Assumes nothing.
use mathlib.Core.Path.{sym, ◌∙◌}
use Rattle.packed_half.specs.Half.{half_bitmask, sign_bit}
use Rattle.packed_half.proofs.Signs.{top_sign}
use Rattle.packed_half.proofs.Whole.{one_lane}
use Rattle.packed_reduce.proofs.bitmask64.Goals as goal

pub returns : goal.returns
unfolding half_bitmask
returns c = top_sign 63 _ c.ranges.a.fits ∙ sym (one_lane 1 64 (sign_bit 64) _ c.ranges.a.fits)

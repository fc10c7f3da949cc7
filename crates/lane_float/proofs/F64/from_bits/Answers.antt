-- `lane_float::F64::from_bits` meets its contract. Assumes nothing.
use mathlib.Core.Path.{ap, ◌∙◌}
use lib.Ieee.{binary64, to_bits}
use Rattle.standard.proofs.Nan.{fails}
use Rattle.lane_float.proofs.Nan.{own_bits}
use Rattle.lane_float.proofs.F64.from_bits.Goals as goal

pub returns-else-is_nan : goal.returns-else-is_nan
returns-else-is_nan c =
    ap (to_bits binary64) c.number.ensures ∙ own_bits binary64 _ c.ranges.bits.fits (fails c.is_nan.ensures c.if-is_nan.false)

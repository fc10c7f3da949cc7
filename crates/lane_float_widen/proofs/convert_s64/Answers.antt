-- `lane_float_widen::convert_s64` meets its contract. Assumes nothing.
use mathlib.Core.Path.{ap, ap₂, ◌∙◌}
use Prim.Native.Nat.{◌+◌}
use native.Mathlib.Nat.{le_of_eq, lt_of_le_of_lt}
use lib.Ieee.{binary64}
use Rattle.standard.specs.Convert.{convert_u}
use Rattle.lane_float_pattern.proofs.Numbers.{signed_lane, lane_fits}
use Rattle.lane_float_widen.proofs.convert_s64.Goals as goal

pub overflow_add-result : goal.overflow_add-result
overflow_add-result c = record {
  fits = lt_of_le_of_lt (le_of_eq (ap₂ ◌+◌ c.pick.ensures c.convert_u64.ensures))
      (lane_fits c.args.n binary64 c.magnitude.result);
}

pub returns : goal.returns
returns c = ap₂ ◌+◌ c.pick.ensures (c.convert_u64.ensures ∙ ap (convert_u binary64) c.magnitude.ensures)
    ∙ signed_lane c.args.n binary64 c.ranges.n.fits

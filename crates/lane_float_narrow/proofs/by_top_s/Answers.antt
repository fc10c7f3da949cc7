-- `lane_float_narrow::by_top_s` meets its contract. Assumes nothing.
use mathlib.Core.Path.{ap, ap₂, ◌∙◌}
use Prim.Native.Nat.{◌+◌}
use native.Mathlib.Nat.{le_of_eq, lt_of_le_of_lt}
use lib.Ieee.{binary32}
use Rattle.standard.specs.Convert.{convert_u}
use Rattle.lane_float_pattern.proofs.Numbers.{signed_lane, lane_fits}
use Rattle.lane_float_narrow.proofs.by_top_s.Goals as goal

pub overflow_add-result : goal.overflow_add-result
overflow_add-result c = record {
  fits = lt_of_le_of_lt (le_of_eq (ap₂ ◌+◌ c.pick.ensures c.by_top.ensures))
      (lane_fits c.args.x binary32 c.args.n);
}

pub returns : goal.returns
returns c = ap₂ ◌+◌ c.pick.ensures (c.by_top.ensures ∙ ap (convert_u binary32) c.requires.n_value)
    ∙ signed_lane c.args.x binary32 c.ranges.x.fits

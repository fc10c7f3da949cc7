-- `lane_float_saturate::trunc_sat_u32` meets its contract. Assumes nothing.
use Rattle.std.proofs.Common.{ℕ, cond, ◌||◌, ltb, ap, ◌∙◌}
use Rattle.lane_float_saturate.proofs.Range.{unsigned}
use Rattle.lane_float_saturate.proofs.trunc_sat_u32.Goals as goal

pub returns : goal.returns
returns c =
    let b = c.args.bits in
    c.pick.ensures ∙ ap (λ (w : ℕ). cond (ltb b 1065353216 || ltb 2139095040 b) 0 w) c.pick-capped.ensures
    ∙ unsigned b c.ranges.bits.fits

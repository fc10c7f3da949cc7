-- `lane_float_saturate::trunc_sat_s32` meets its contract. Assumes nothing.
use Rattle.std.proofs.Common.{ℕ, ◌%◌, cond, ◌||◌, ltb, ap, ◌∙◌, rules}
use Rattle.lane_float_saturate.proofs.Range.{signed}
use Rattle.lane_float_saturate.proofs.trunc_sat_s32.Goals as goal

pub returns : goal.returns
returns c =
    let b = c.args.bits in
    c.pick.ensures ∙ ap (λ (w : ℕ). cond (ltb (b % 2147483648) 1065353216 || ltb 2139095040 (b % 2147483648)) 0 w) c.pick-capped.ensures
    ∙ signed b c.ranges.bits.fits c.pick-ones.ensures (search rules)
    c.wrapping_sub_u32-turned.ensures.value

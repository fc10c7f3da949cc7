-- `lane_wide::q15mulr_sat_s` meets its contract: the product and its rounding fit in 32 bits, the shift is the floor, and the rounded quotient is
-- never below the range. What is promised comes first, then that nothing overflows on the way. Assumes nothing.
use mathlib.Core.Path.{◌∙◌}
use mir.Syntax.{w16}
use Rattle.lane_integer.proofs.Magnitude.{product_exact, rounded_exact, rounded_shift}
use Rattle.lane_wide.proofs.Rounded.{lanes_between, not_below}
use Rattle.lane_wide.proofs.Saturation.{upper_past, upper_casts, upper_inside}
use Rattle.lane_wide.proofs.q15mulr_sat_s.Goals as goal

pub returns-then-rounded-gt32767 : goal.returns-then-rounded-gt32767
returns-then-rounded-gt32767 c =
    let r = rounded_shift w16 tt c.ranges.a c.ranges.b
    c.wide.type_inv c.wide.ensures c.wide-2.type_inv
    c.wide-2.ensures in
    c.of_signed.ensures
    ∙ upper_past w16 r (not_below _ (lanes_between _ _ c.ranges.a c.ranges.b).above)
    c.if-rounded-gt32767.true

pub returns-else-rounded-gt32767 : goal.returns-else-rounded-gt32767
returns-else-rounded-gt32767 c =
    let r = rounded_shift w16 tt c.ranges.a c.ranges.b
    c.wide.type_inv c.wide.ensures c.wide-2.type_inv
    c.wide-2.ensures in
    c.of_signed-else-rounded-gt32767.ensures
    ∙ upper_inside w16 r (not_below _ (lanes_between _ _ c.ranges.a c.ranges.b).above)
    c.if-rounded-gt32767.false

pub overflow_mul-rounded : goal.overflow_mul-rounded
overflow_mul-rounded c = (product_exact w16 tt c.ranges.a c.ranges.b c.wide.type_inv c.wide.ensures
    c.wide-2.type_inv c.wide-2.ensures).0

pub overflow_add-rounded : goal.overflow_add-rounded
overflow_add-rounded c = (rounded_exact w16 tt c.ranges.a c.ranges.b c.wide.type_inv c.wide.ensures
    c.wide-2.type_inv c.wide-2.ensures).0

pub overflow_cast-rounded : goal.overflow_cast-rounded
overflow_cast-rounded c =
    let r = rounded_shift w16 tt c.ranges.a c.ranges.b c.wide.type_inv
    c.wide.ensures c.wide-2.type_inv c.wide-2.ensures in
    upper_casts w16 r (not_below _ (lanes_between _ _ c.ranges.a c.ranges.b).above) c.if-rounded-gt32767.false

-- `lane_float_integral::integral` meets its contract. Assumes nothing.
use mathlib.Core.Path.{ap₂, ◌∙◌}
use Prim.Native.Nat.{◌+◌}
use Rattle.lane_float_pattern.proofs.ToWhole.{of_nan, large, small}
use Rattle.lane_float_integral.proofs.Between.{fits, cut_fits, cut_is}
use Rattle.lane_float_integral.proofs.integral.Goals as goal

pub returns-then-INFINITY-size : goal.returns-then-INFINITY-size
returns-then-INFINITY-size g c =
    let laws = g.met.P.Pattern in
    c.nan.ensures
    ∙ of_nan c.args.even c.args.away g.P.Pattern.format _
    (rw (c.to_u64-n.ensures.same, c.SIGN.ensures ∙ laws.sign_is, c.INFINITY.ensures ∙ laws.infinity_is) at c.if-INFINITY-size.true)

pub returns-then-LOWEST-field : goal.returns-then-LOWEST-field
returns-then-LOWEST-field g c =
    let laws = g.met.P.Pattern in
    let sign = c.SIGN.ensures ∙ laws.sign_is in
    large c.args.even c.args.away g.P.Pattern.format _ (rw c.to_u64-n.ensures.same at c.to_u64-n.ensures.fits)
    (rw (c.to_u64-n.ensures.same, sign, c.INFINITY.ensures ∙ laws.infinity_is) at c.if-INFINITY-size.false)
    (rw (c.to_u64-n.ensures.same, sign, c.FIELD.ensures ∙ laws.field_is, c.LOWEST.ensures ∙ laws.lowest_is) at c.if-LOWEST-field.true)

pub returns-then-field-BIAS : goal.returns-then-field-BIAS
returns-then-field-BIAS g c =
    let laws = g.met.P.Pattern in
    let same = c.to_u64-n.ensures.same in
    c.from_u64.ensures
    ∙ ap₂ ◌+◌
    (c.pick.ensures ∙ rw (same, c.SIGN-then-field-BIAS.ensures ∙ laws.sign_is, c.SIGN-then-field-BIAS-2.ensures ∙ laws.sign_is))
    (c.pick-then-field-BIAS.ensures
    ∙ rw (c.rises.ensures, c.BIAS-then-field-BIAS.ensures ∙ laws.bias_is, c.FIELD-then-field-BIAS.ensures ∙ laws.field_is))
    ∙ small c.args.even c.args.away g.P.Pattern.format _
    (rw (same, c.SIGN.ensures ∙ laws.sign_is, c.FIELD.ensures ∙ laws.field_is, c.BIAS.ensures ∙ laws.bias_is) at c.if-field-BIAS.true)

pub overflow_add-n : goal.overflow_add-n
overflow_add-n g c =
    let laws = g.met.P.Pattern in
    let same = c.to_u64-n.ensures.same in
    let sign = c.SIGN.ensures ∙ laws.sign_is in
    let field = c.FIELD.ensures ∙ laws.field_is in
    record {
      fits = rw same (fits c.args.even c.args.away g.P.Pattern.format _ (rw same at c.to_u64-n.ensures.fits)
          (rw (same, sign, field, c.BIAS.ensures ∙ laws.bias_is) at c.if-field-BIAS.false)
          (rw (same, sign, field, c.LOWEST.ensures ∙ laws.lowest_is) at c.if-LOWEST-field.false)
          (rw (same, sign, field, c.LOWEST-2.ensures ∙ laws.lowest_is) at c.lift.ensures));
    }

pub from_u64-requires-2 : goal.from_u64-requires-2
from_u64-requires-2 g c =
    let laws = g.met.P.Pattern in
    let same = c.to_u64-n.ensures.same in
    let sign = c.SIGN.ensures ∙ laws.sign_is in
    let field = c.FIELD.ensures ∙ laws.field_is in
    let lowest = c.LOWEST-2.ensures ∙ laws.lowest_is in
    rw (same, sign, field, lowest)
    (cut_fits c.args.even c.args.away g.P.Pattern.format _ (rw same at c.to_u64-n.ensures.fits)
    (rw (same, sign, field, c.BIAS.ensures ∙ laws.bias_is) at c.if-field-BIAS.false)
    (rw (same, sign, field, c.LOWEST.ensures ∙ laws.lowest_is) at c.if-LOWEST-field.false) (rw (same, sign, field, lowest) at c.lift.ensures))

pub returns : goal.returns
returns g c =
    let laws = g.met.P.Pattern in
    let same = c.to_u64-n.ensures.same in
    let sign = c.SIGN.ensures ∙ laws.sign_is in
    let field = c.FIELD.ensures ∙ laws.field_is in
    let lowest = c.LOWEST-2.ensures ∙ laws.lowest_is in
    (rw (same, sign, field, lowest) at c.from_u64-2.ensures)
    ∙ cut_is c.args.even c.args.away g.P.Pattern.format _ (rw same at c.to_u64-n.ensures.fits)
    (rw (same, sign, field, c.BIAS.ensures ∙ laws.bias_is) at c.if-field-BIAS.false)
    (rw (same, sign, field, c.LOWEST.ensures ∙ laws.lowest_is) at c.if-LOWEST-field.false) (rw (same, sign, field, lowest) at c.lift.ensures)

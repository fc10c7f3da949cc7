-- `lane_float_saturate::trunc_sat_s64` meets its contract. Assumes nothing.
use Rattle.std.proofs.Common.{ℕ, ◌+◌, ◌-◌, ◌/◌, ◌%◌, ◌^◌, ◌<◌, ◌≤◌, sym, ◌∙◌, le_trans, lt_trans, le_of_lt, arith, lit<, lit≤}
use lib.Ieee.{binary64}
use Rattle.lane_float_pattern.proofs.Fields.{field}
use Rattle.lane_float_pattern.proofs.Saturation.{part_small}
use Rattle.lane_float_parts.proofs.Upper.{upper, under, from, finite}
use Rattle.lane_float_saturate.proofs.Range.{nothing, within, at_end, ones_field, part_is, with_sign}
use Rattle.lane_float_saturate.proofs.trunc_sat_s64.Goals as goal

pub returns-then-size-lt1072693248 : goal.returns-then-size-lt1072693248
returns-then-size-lt1072693248 c = nothing binary64 c.args.bits (sym (part_small binary64 c.args.bits (under 1023 c.args.bits c.if-size-lt1072693248.true)))

pub returns-then-size-ge2146435072 : goal.returns-then-size-ge2146435072
returns-then-size-ge2146435072 c = c.pick.ensures ∙ ones_field c.args.bits c.pick-end.ensures c.if-size-ge2146435072.true

pub returns-then-size-ge1105199104 : goal.returns-then-size-ge1105199104
returns-then-size-ge1105199104 c = at_end c.args.bits c.pick-end.ensures
    (finite c.args.bits c.if-size-ge2146435072.false) (from 1054 c.args.bits c.if-size-ge1105199104.true)

-- what the shift leaves
module _ (c : goal.Else-size-ge1105199104) where
  abbrev bits : ℕ
  bits = c.args.bits

  field_from : 1023 ≤ field binary64 bits
  field_from = from 1023 bits c.if-size-lt1072693248.false

  field_under : field binary64 bits < 1054
  field_under = under 1054 bits c.if-size-ge1105199104.false

  abbrev left : ℕ
  left = (bits % 4503599627370496 + 4503599627370496) / 2 ^ (1075 - upper bits / 1048576)

  some : 0 < left
  some = let w = within binary64 bits field_from field_under in omega (arith, part_is bits field_from field_under, w.0)

  few : left < 2147483648
  few = let w = within binary64 bits field_from field_under in omega (arith, part_is bits field_from field_under, w.1)

room : (p : ℕ) → 0 < p → 4294967295 - p + 1 < 4294967296
room p h = omega arith

pub overflow_cast-part-2 : goal.overflow_cast-part-2
overflow_cast-part-2 c = record { fits = lt_trans (few c) (lit< tt) }

pub overflow_sub-part-2 : goal.overflow_sub-part-2
overflow_sub-part-2 c = le_trans (le_of_lt (few c)) (lit≤ tt)

pub overflow_add-part : goal.overflow_add-part
overflow_add-part c = record { fits = room _ (some c) }

pub returns : goal.returns
returns c = c.pick-2.ensures ∙ with_sign c.args.bits (field_from c.before) (field_under c.before)
    (part_is c.args.bits (field_from c.before) (field_under c.before))

-- `calculator_operation::replace::i32_lanes` meets its contract: the low bits, or all of them. Assumes nothing.
use mathlib.Core.Path.{refl}
use mir.Syntax.{w8, w16}
use mir.Facts.{to_z-of_z}
use Rattle.standard.specs.Instruction.{i32, table, instruction}
use Rattle.lane_integer.proofs.Magnitude.{kept}
use Rattle.calculator_families.specs.Family.{families}
use Rattle.calculator_families.proofs.Others.{any}
use Rattle.calculator_operation.proofs.replace.i32_lanes.Goals as goal

pub returns-in-23 : goal.returns-in-23
unfolding instruction table
returns-in-23 c =
    rw (
      c.in-23.is,
      c.vector.ensures,
      c.i8x16_replace_lane.ensures,
      kept w8
          c.low8.type_inv refl,
      c.low8.ensures,
      to_z-of_z c.ranges.x,
    )

pub returns-in-26 : goal.returns-in-26
unfolding instruction table
returns-in-26 c =
    rw (
      c.in-26.is,
      c.vector-in-26.ensures,
      c.i16x8_replace_lane.ensures,
      kept w16
          c.low16.type_inv refl,
      c.low16.ensures,
      to_z-of_z c.ranges.x,
    )

pub returns-in-28 : goal.returns-in-28
unfolding instruction table
returns-in-28 c =
    rw (c.in-28.is, c.vector-in-28.ensures, c.i32x4_replace_lane.ensures, to_z-of_z c.ranges.x)

pub returns-in_default : goal.returns-in_default
unfolding instruction table
returns-in_default c = rw (any (λ i. (families i).replace i32) c.args.op refl (search))

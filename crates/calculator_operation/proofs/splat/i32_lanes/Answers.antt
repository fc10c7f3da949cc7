-- `calculator_operation::splat::i32_lanes` meets its contract: the low bits, or all of them. Assumes nothing.
use mathlib.Core.Path.{refl}
use mir.Syntax.{w8, w16}
use mir.Facts.{to_z-of_z}
use Rattle.standard.specs.Instruction.{i32, table, instruction}
use Rattle.lane_integer.proofs.Magnitude.{kept}
use Rattle.calculator_families.specs.Family.{families}
use Rattle.calculator_families.proofs.Others.{any}
use Rattle.calculator_operation.proofs.splat.i32_lanes.Goals as goal

pub returns-in-15 : goal.returns-in-15
unfolding instruction table
returns-in-15 c =
    rw (
      c.in-15.is,
      c.i8x16_splat.ensures,
      kept w8 c.low8.type_inv refl,
      c.low8.ensures,
      to_z-of_z
          c.ranges.x,
    )

pub returns-in-16 : goal.returns-in-16
unfolding instruction table
returns-in-16 c =
    rw (
      c.in-16.is,
      c.i16x8_splat.ensures,
      kept w16 c.low16.type_inv refl,
      c.low16.ensures,
      to_z-of_z
          c.ranges.x,
    )

pub returns-in-17 : goal.returns-in-17
unfolding instruction table
returns-in-17 c = rw (c.in-17.is, c.i32x4_splat.ensures, to_z-of_z c.ranges.x)

pub returns-in_default : goal.returns-in_default
unfolding instruction table
returns-in_default c = rw (any (λ i. (families i).splat i32) c.args.op refl (search))

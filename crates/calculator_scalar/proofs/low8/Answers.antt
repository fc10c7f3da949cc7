-- `calculator_scalar::low8` meets its contract: the low bits, read as a signed number and back. Assumes nothing.
use mathlib.Core.Path.{ap, ◌∙◌}
use Prim.Native.Nat.{◌%◌}
use native.Mathlib.Omega.{arith}
use mir.Val.{Fits}
use mir.Syntax.{w8}
use mir.Facts.{to_z-of_z}
use Rattle.standard.specs.Integer.{modulo}
use Rattle.lane_integer.proofs.Magnitude.{kept}
use Rattle.lane_integer.proofs.Signed.{modulo_signed}
use Rattle.calculator_scalar.proofs.low8.Goals as goal

pub returns : goal.returns
returns c =
    let f : Fits w8 (c.of_signed.result % 256) = omega arith in
    ap (modulo 8) (kept w8 c.signed.type_inv c.signed.ensures) ∙ modulo_signed w8 _ f
    ∙ rw (← to_z-of_z c.ranges.z, ← c.of_signed.ensures)

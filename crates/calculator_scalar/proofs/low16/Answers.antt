-- `calculator_scalar::low16` meets its contract: the low bits, read as a signed number and back. Assumes nothing.
use mathlib.Core.Path.{ap, ◌∙◌}
use Prim.Native.Nat.{◌%◌}
use native.Mathlib.Omega.{arith}
use mir.Val.{Fits}
use mir.Syntax.{w16}
use mir.Facts.{to_z-of_z}
use Rattle.standard.specs.Integer.{modulo}
use Rattle.lane_integer.proofs.Magnitude.{kept}
use Rattle.lane_integer.proofs.Signed.{modulo_signed}
use Rattle.calculator_scalar.proofs.low16.Goals as goal

pub returns : goal.returns
returns c =
    let f : Fits w16 (c.of_signed.result % 65536) = omega arith in
    ap (modulo 16) (kept w16 c.signed.type_inv c.signed.ensures) ∙ modulo_signed w16 _ f
    ∙ rw (← to_z-of_z c.ranges.z, ← c.of_signed.ensures)

-- `calculator_scalar::Scalar::of_bits` meets its contract: the bits, read as signed and back. Assumes nothing.
use mathlib.Core.Path.{◌≡◌}
use mir.Syntax.{w32}
use mir.Val.{Fits}
use Rattle.standard.specs.Integer.{signed, modulo}
use Rattle.lane_integer.proofs.Magnitude.{kept}
use Rattle.lane_integer.proofs.Signed.{modulo_signed}
use borrow.Author.Rules.{rules}
use Rattle.calculator_scalar.proofs.Scalar.of_bits.Goals as goal

pub returns : goal.returns
returns c =
    let x = c.args.x in
    let f : Fits w32 x = search rules in
    let e : modulo 32 (signed 32 x) ≡ x = modulo_signed w32 x f in
    rw (kept w32 c.signed.type_inv c.signed.ensures, e)

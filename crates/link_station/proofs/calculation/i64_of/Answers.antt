-- `link_station::calculation::i64_of` meets its contract: the bits, read as signed and back. Assumes nothing.
use borrow.Author.Rules.{rules}
use mathlib.Core.Path.{◌≡◌}
use mir.Syntax.{w64}
use mir.Val.{Fits}
use Rattle.standard.specs.Integer.{signed, modulo}
use Rattle.lane_integer.proofs.Magnitude.{kept}
use Rattle.lane_integer.proofs.Signed.{modulo_signed}
use Rattle.link_station.proofs.calculation.i64_of.Goals as goal

pub returns : goal.returns
returns c =
    let x = c.args.bits in
    let f : Fits w64 x = search rules in
    let e : modulo 64 (signed 64 x) ≡ x = modulo_signed w64 x f in
    rw (kept w64 c.signed.type_inv c.signed.ensures, e)

-- `calculator_scalar::Scalar::bits` meets its contract, by the promise of its kind. Assumes nothing.
use mathlib.Core.Path.{◌≡◌}
use mir.Syntax.{w32, w64}
use mir.Val.{to_z, of_z}
use borrow.Author.Rules.{rules}
use Rattle.calculator_scalar.proofs.Scalar.bits.Goals as goal

pub returns-in-I32 : goal.returns-in-I32
returns-in-I32 c =
    let p = c.in-I32.x in
    let e : to_z w32 (of_z w32 p) ≡ p = search rules in
    rw (c.in-I32.is, ← e) c.of_signed.ensures

pub returns-in-I64 : goal.returns-in-I64
returns-in-I64 c =
    let p = c.in-I64.x in
    let e : to_z w64 (of_z w64 p) ≡ p = search rules in
    rw (c.in-I64.is, ← e) c.of_signed-in-I64.ensures

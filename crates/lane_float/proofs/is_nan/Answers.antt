-- `lane_float::is_nan` meets its contract. Assumes nothing.
use mathlib.Core.Path.{sym, ap₂, ◌∙◌}
use Prim.Native.Nat.{◌%◌}
use lib.Dec.{ltb}
use lib.Ieee.Bits.{nan_bits_above}
use Rattle.lane_float.proofs.is_nan.Goals as goal

pub returns : goal.returns
returns g c =
    let laws = g.met.P.Pattern in
    ap₂ ltb (c.INFINITY.ensures ∙ laws.infinity_is) (ap₂ ◌%◌ c.to_u64.ensures.same (c.SIGN.ensures ∙ laws.sign_is))
    ∙ sym (nan_bits_above g.P.Pattern.format _)

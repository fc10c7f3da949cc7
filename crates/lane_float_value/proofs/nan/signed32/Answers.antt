-- `lane_float_value::nan::signed32` meets its contract. Assumes nothing.
use mathlib.Core.Path.{◌≡◌, refl, sym, ap, ◌∙◌}
use mathlib.Core.Bool.{Bool, true, false}
use Prim.Native.Nat.{ℕ, ◌+◌, ◌%◌}
use native.Mathlib.Omega.{arith}
use borrow.Author.Tests.{ltb-true, ltb-false, lt-ltb, le-ltb}
use lib.Dec.{ltb}
use lib.Ieee.{binary32}
use lib.Ieee.Bits.{nan_bits_above}
use Rattle.lane_float_value.proofs.Together.{set_sign}
use Rattle.lane_float_value.proofs.nan.signed32.Goals as goal

past : (m : ℕ) → ltb 0xFF800000 (0x80000000 + m) ≡ ltb 0x7F800000 m
past m = pick (ltb 0x7F800000 m) refl
  where
    pick : (t : Bool) → ltb 0x7F800000 m ≡ t → ltb 0xFF800000 (0x80000000 + m) ≡ t
    pick true e = lt-ltb 0xFF800000 (0x80000000 + m) (omega (arith, ltb-true 0x7F800000 m e))
    pick false e = le-ltb 0xFF800000 (0x80000000 + m) (omega (arith, ltb-false 0x7F800000 m e))

pub returns : goal.returns
returns c =
    ap (ltb 0xFF800000) (set_sign binary32 c.args.bits c.ranges.bits.fits) ∙ past (c.args.bits % 0x80000000)
    ∙ sym (nan_bits_above binary32 c.args.bits)

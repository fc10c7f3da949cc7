-- `lane_float_value::nan::carry_signed64` meets its contract. Assumes nothing.
use mathlib.Core.Path.{◌≡◌, ap, ◌∙◌}
use Prim.Native.Nat.{ℕ, ◌+◌, ◌-◌, ◌/◌, ◌%◌}
use native.Mathlib.Omega.{arith}
use lib.Ieee.{binary64}
use Rattle.lane_float_value.proofs.Carry.{carries}
use Rattle.lane_float_value.proofs.Together.{set_sign}
use Rattle.lane_float_value.proofs.nan.carry_signed64.Goals as goal

less : (m : ℕ) → 0x8000000000000000 + m - 0x7FF0000000000001 ≡ m + 0xFFFFFFFFFFFFF
less m = omega arith

pub overflow_sub-result : goal.overflow_sub-result
overflow_sub-result c = let h = set_sign binary64 c.args.bits c.ranges.bits.fits in omega (arith, h)

pub returns : goal.returns
returns c =
    ap (λ (x : ℕ). (x - 0x7FF0000000000001) / 0x8000000000000000) (set_sign binary64 c.args.bits c.ranges.bits.fits)
    ∙ ap (λ (x : ℕ). x / 0x8000000000000000) (less (c.args.bits % 0x8000000000000000)) ∙ carries c.args.bits

-- `lane_float_value::nan::clear64` meets its contract. Assumes nothing.
use mathlib.Core.Path.{◌≡◌, refl}
use mathlib.Core.Bool.{not}
use Prim.Native.Nat.{ℕ, zero, suc, ◌/◌, ◌<◌}
use native.Mathlib.Omega.{arith}
use lib.Dec.{T, eqb}
use lib.Ieee.{binary64, lt, of_bits, nan_bits}
use Rattle.lane_float_value.proofs.nan.clear64.Goals as goal

number : (b : ℕ) → b < 2 → T (not (nan_bits binary64 b))
unfolding nan_bits
number zero h = tt
number (suc zero) h = tt
number (suc (suc b)) h = absurd (omega arith)

told : (b : ℕ) → b < 2 → lt (of_bits binary64 b) (of_bits binary64 1) ≡ eqb b 0
unfolding lt of_bits
told zero h = refl
told (suc zero) h = refl
told (suc (suc b)) h = absurd (omega arith)

pub float_from_bits-result : goal.float_from_bits-result
float_from_bits-result c = number (c.args.bits / 0x8000000000000000) (omega arith)

pub float_from_bits-result-2 : goal.float_from_bits-result-2
float_from_bits-result-2 c = number 1 (omega arith)

pub returns : goal.returns
returns c = told (c.args.bits / 0x8000000000000000) (omega arith)

-- `recording_mending::weight` meets its contract. Assumes nothing.
use mathlib.Core.Path.{◌≡◌, ap, ◌∙◌}
use Prim.Native.Nat.{ℕ, ◌-◌, ◌*◌, ◌%◌, ◌^◌, ◌<◌}
use native.Mathlib.Nat.{one-mul, mod-eq_of_lt}
use native.Mathlib.Omega.{arith}
use lib.Pow.{pow-lt}
use Rattle.recording_mending.proofs.weight.Goals as goal

one_bit : (n : ℕ) → n < 8 → 1 * 2 ^ n % 256 ≡ 2 ^ n
one_bit n h = ap (λ (x : ℕ). x % 256) (one-mul (2 ^ n)) ∙ mod-eq_of_lt (pow-lt h)

pub returns : goal.returns
returns c = one_bit (7 - c.args.k % 8) (omega arith)

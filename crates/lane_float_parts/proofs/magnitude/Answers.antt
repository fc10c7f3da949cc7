-- `lane_float_parts::magnitude` meets its contract. Assumes nothing.
use mathlib.Core.Path.{◌≡◌, sym, ap, ◌∙◌}
use Prim.Native.Nat.{ℕ, suc, ◌+◌, ◌-◌, ◌<◌}
use native.Mathlib.Omega.{arith}
use lib.IntN.{nat_abs}
use Rattle.lane_float_pattern.proofs.Numbers.{reads_low, reads_high}
use Rattle.lane_float_parts.proofs.magnitude.Goals as goal

counted : (n : ℕ) → n < 4294967296 → 4294967295 - n + 1 ≡ suc (4294967296 - suc n)
counted n h = omega arith

pub returns-then-n-lt2147483648 : goal.returns-then-n-lt2147483648
returns-then-n-lt2147483648 c = sym (ap nat_abs (reads_low c.args.n c.if-n-lt2147483648.true))

pub returns-else-n-lt2147483648 : goal.returns-else-n-lt2147483648
returns-else-n-lt2147483648 c = counted c.args.n c.ranges.n.fits
    ∙ sym (ap nat_abs (reads_high c.args.n c.if-n-lt2147483648.false c.ranges.n.fits))

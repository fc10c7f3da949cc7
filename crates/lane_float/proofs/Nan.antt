-- A pattern that is no NaN's is the number's own, over both float formats. Assumes nothing.
use mathlib.Core.Path.{◌≡◌, subst}
use mathlib.Core.Bool.{Bool, not}
use Prim.Native.Nat.{ℕ, ◌*◌, ◌<◌}
use lib.Dec.{T}
use lib.Ieee.{Format, top, of_bits, to_bits, nan_bits}
use lib.Ieee.Bits.{nan_bits_is, to_bits-of_bits}

pub own_bits : (f : Format) (n : ℕ) → n < 2 * top f → T (not (nan_bits f n)) → to_bits f (of_bits f n) ≡ n
own_bits f n h k = to_bits-of_bits f n h (subst (λ (b : Bool). T (not b)) (nan_bits_is f n) k)

-- A float that is a number is equal to itself, and a NaN is not. Assumes nothing.
use mathlib.Core.Path.{◌≡◌, refl}
use mathlib.Core.Bool.{true, false, not}
use lib.Dec.{T}
use lib.Ieee
use lib.Ieee.{Float, nan, Format, to_bits, is_nan}
use Rattle.standard.proofs.Nan.{is_number, nan_written}

differs_not : (x : Float) → Ieee.ne x x ≡ not (Ieee.eq x x)
unfolding Ieee.ne
differs_not x = refl

pub same_number : (x : Float) → Ieee.eq x x ≡ true → T (not (is_nan x))
same_number x h = is_number x (rw (differs_not x, h))

pub written : (f : Format) (x : Float) → Ieee.eq x x ≡ false → to_bits f nan ≡ to_bits f x
unfolding to_bits
written f x h = nan_written f x (rw (differs_not x, h))

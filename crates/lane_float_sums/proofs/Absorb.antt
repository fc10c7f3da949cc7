-- A NaN goes through every operation, over both float formats. Assumes nothing.
use mathlib.Core.Path.{◌≡◌, refl, ap}
use mathlib.Core.Bool.{Bool, false, not, ◌||◌}
use mathlib.Core.Logic.{⊎_elim}
use Prim.Native.Nat.{ℕ}
use lib.Ieee
use lib.Ieee.{Float, nan, inf, fin, Format, of_bits, to_bits, nan_bits}
use Rattle.standard.proofs.Nan.{nan_read}
use Rattle.lane_float_value.proofs.FloatOrder.{one_nan}

-- An operation whose result is a NaN wherever one of its operands is.
abbrev pub Absorbs : (Float → Float → Float) → Type 0
Absorbs g = (x : Float) → (nan ≡ g nan x) × (nan ≡ g x nan)

pub add_absorbs : (f : Format) → Absorbs (Ieee.add f)
unfolding Ieee.add
add_absorbs f nan = (refl, refl)
add_absorbs f (inf s) = (refl, refl)
add_absorbs f (fin s m e) = (refl, refl)

pub sub_absorbs : (f : Format) → Absorbs (Ieee.sub f)
unfolding Ieee.sub
sub_absorbs f nan = (refl, refl)
sub_absorbs f (inf s) = (refl, refl)
sub_absorbs f (fin s m e) = (refl, refl)

pub mul_absorbs : (f : Format) → Absorbs (Ieee.mul f)
unfolding Ieee.mul
mul_absorbs f nan = (refl, refl)
mul_absorbs f (inf s) = (refl, refl)
mul_absorbs f (fin s m e) = (refl, refl)

pub div_absorbs : (f : Format) → Absorbs (Ieee.div f)
unfolding Ieee.div
div_absorbs f nan = (refl, refl)
div_absorbs f (inf s) = (refl, refl)
div_absorbs f (fin s m e) = (refl, refl)

pub absorbed : (f : Format) (a b : ℕ) {t : Bool} → t ≡ not (nan_bits f a || nan_bits f b) → (g : Float → Float → Float) → Absorbs g → t ≡ false
    → to_bits f nan ≡ to_bits f (g (of_bits f a) (of_bits f b))
absorbed f a b e g u h =
    ap (to_bits f) (⊎_elim (λ l. rw (← nan_read f a l) (u (of_bits f b)).0) (λ r. rw (← nan_read f b r) (u (of_bits f a)).1) (one_nan f a b e h))

-- Comparisons of float patterns, over both formats: with a NaN every one is false but "not equal".
-- Assumes nothing.
use mathlib.Core.Path.{◌≡◌, refl, sym, ◌∙◌}
use mathlib.Core.Bool.{Bool, true, false, not, ◌||◌}
use mathlib.Core.Logic.{◌⊎◌, ⊎_elim}
use Prim.Native.Nat.{ℕ}
use borrow.Author.Tests.{not-false}
use mir.Facts.{or_yes, or_no}
use lib.Dec.{T}
use lib.Ieee
use lib.Ieee.{Float, nan, inf, fin, Format, of_bits, nan_bits}
use lib.Ieee.Bits.{nan_bits_is}
use lib.Ieee.Compare.{differs_from_itself}
use Rattle.standard.proofs.Nan.{holds, differs}

-- A comparison that is false wherever one of its operands is a NaN.
abbrev pub Unordered : (Float → Float → Bool) → Type 0
Unordered g = (x : Float) → (false ≡ g nan x) × (false ≡ g x nan)

pub eq_unordered : Unordered Ieee.eq
unfolding Ieee.eq
eq_unordered nan = (refl, refl)
eq_unordered (inf s) = (refl, refl)
eq_unordered (fin s m e) = (refl, refl)

pub lt_unordered : Unordered Ieee.lt
unfolding Ieee.lt
lt_unordered nan = (refl, refl)
lt_unordered (inf s) = (refl, refl)
lt_unordered (fin s m e) = (refl, refl)

pub le_unordered : Unordered Ieee.le
unfolding Ieee.le
le_unordered nan = (refl, refl)
le_unordered (inf s) = (refl, refl)
le_unordered (fin s m e) = (refl, refl)

pub ne_is : (x y : Float) → Ieee.ne x y ≡ not (Ieee.eq x y)
unfolding Ieee.ne
ne_is x y = refl

reads_nan : (f : Format) (n : ℕ) → T (nan_bits f n) → of_bits f n ≡ nan
reads_nan f n t = differs_from_itself (of_bits f n) (rw (differs, ← nan_bits_is) t)

-- two patterns, and the test whether neither of them is a NaN
module _ (f : Format) (a b : ℕ) {t : Bool} (e : t ≡ not (nan_bits f a || nan_bits f b)) where
  pub ordered : t ≡ true → T (not (nan_bits f a)) × T (not (nan_bits f b))
  ordered h = or_no (nan_bits f a) (nan_bits f b) (holds e h)

  pub one_nan : t ≡ false → T (nan_bits f a) ⊎ T (nan_bits f b)
  one_nan h = or_yes (nan_bits f a) (nan_bits f b) (holds refl (not-false (nan_bits f a || nan_bits f b) (sym e ∙ h)))

  pub with_nan : (g : Float → Float → Bool) → Unordered g → t ≡ false → false ≡ g (of_bits f a) (of_bits f b)
  with_nan g u h = ⊎_elim (λ l. rw (reads_nan f a l) (u (of_bits f b)).0) (λ r. rw (reads_nan f b r) (u (of_bits f a)).1) (one_nan h)

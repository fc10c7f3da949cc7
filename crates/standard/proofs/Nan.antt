-- NaNs, over both float formats: what a test for one says, which patterns are read as one, and how one is written. Assumes nothing.
use mathlib.Core.Path.{◌≡◌, refl, sym, ◌∙◌, subst, subst⁻¹}
use mathlib.Core.Bool.{Bool, true, false, not, beq}
use Prim.Native.Nat.{ℕ, ◌+◌, ◌*◌, ◌/◌}
use borrow.Author.Tests.{eq-eqb}
use lib.Dec.{T}
use lib.Ieee
use lib.Ieee.{Float, nan, inf, fin, Format, ones, hid, of_bits, to_bits, nan_bits, is_nan}
use lib.Ieee.Compare.{differs_from_itself}
use lib.Ieee.Bits.{nan_bits_is}

-- what a test of the code says of the claim that it decides
pub holds : {t u : Bool} → t ≡ u → t ≡ true → T u
holds e h = subst T (sym h ∙ e) tt

pub fails : {t u : Bool} → t ≡ u → t ≡ false → T (not u)
fails e h = subst (λ (b : Bool). T (not b)) (sym h ∙ e) tt

-- a value differs from itself exactly where it is a NaN
beq_self : (s : Bool) → beq s s ≡ true
beq_self true = refl
beq_self false = refl

pub differs : (x : Float) → Ieee.ne x x ≡ is_nan x
unfolding Ieee.ne is_nan
differs nan = refl
differs (inf s) = rw beq_self
differs (fin s m e) = rw (eq-eqb _ _ refl, beq_self)

pub is_number : (x : Float) → Ieee.ne x x ≡ false → T (not (is_nan x))
is_number x t = subst⁻¹ (λ (b : Bool). T (not b)) (sym (differs x) ∙ t) tt

pub nan_written : (f : Format) (x : Float) → Ieee.ne x x ≡ true → ones f * hid f + hid f / 2 ≡ to_bits f x
unfolding to_bits
nan_written f x t = rw (differs_from_itself x (subst T (sym t) tt))

pub nan_read : (f : Format) (n : ℕ) → T (nan_bits f n) → nan ≡ of_bits f n
nan_read f n t = sym (differs_from_itself (of_bits f n) (rw (differs, ← nan_bits_is) t))

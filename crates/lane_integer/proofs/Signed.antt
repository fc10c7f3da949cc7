-- Signed lanes, over the width: the machine's reading of bits as a signed number is the standard's, and the way back is modulo 2^N.
-- Assumes nothing.
use Rattle.std.proofs.Common.{◌≡◌, ℕ, zero, suc, ◌-◌, ◌^◌, ◌<◌, ◌≤◌, Bool, true, false, cond, T, ltb, ℤ, pos, negsuc, ◌-ℤ◌, nat_abs, sym, refl, ap, ◌∙◌, not-suc-le-zero, mod-eq_of_lt, arith, to_z-of_z, w8, w16, w32, w64, Fits, SFits, to_z, of_z, ltb-true, le-ltb, lt-ltb}
use mathlib.Core.Path.{subst⁻¹}
use lib.Signed.{lt_z, non_neg, mag}
use mir.Syntax.{Width, w128}
use mir.Val.{bits, sel}
use mir.ValLaws.{half_full, to_z_pos, to_z-Fits, of_z-to_z}
use Rattle.standard.specs.Integer.{signed, modulo}

-- x - m is negative where x is below m
pub minus_below : (x m : ℕ) → x < m → pos x -ℤ pos m ≡ negsuc (m - suc x)
minus_below x zero h = elim h [ ]
minus_below x (suc m) h = rw (lt-ltb x (suc m) h)

-- and is the difference where it is not
pub minus_above : (x m : ℕ) → m ≤ x → pos x -ℤ pos m ≡ pos (x - m)
minus_above x zero h = ap pos (omega arith)
minus_above x (suc m) h = rw (le-ltb x (suc m) h)

same : (x full : ℕ) → x < full → (b : Bool) → sel b (pos x) (negsuc (full - suc x)) ≡ cond b (pos x) (pos x -ℤ pos full)
same x full h true = refl
same x full h false = sym (minus_below x full h)

pub reads : (w : Width) (x : ℕ) → Fits w x → to_z w x ≡ signed (bits w) x
reads w8 x f = same x (2 ^ 8) f.fits (ltb x (2 ^ 7))
reads w16 x f = same x (2 ^ 16) f.fits (ltb x (2 ^ 15))
reads w32 x f = same x (2 ^ 32) f.fits (ltb x (2 ^ 31))
reads w64 x f = same x (2 ^ 64) f.fits (ltb x (2 ^ 63))
reads w128 x f = same x (2 ^ 128) f.fits (ltb x (2 ^ 127))

-- the complement of the complement
pub twice : (w : Width) (x : ℕ) → Fits w x → (2 ^ bits w - 1) - ((2 ^ bits w - 1) - x) ≡ x
twice w x f = let h : x < 2 ^ bits w = f.fits in omega arith

-- the bits of a negative number, complemented, are its distance from -1, and that complemented is the number modulo 2^N
complement : (w : Width) (z : ℤ) → SFits w z → lt_z z (pos 0) ≡ true
    → (to_z w ((2 ^ bits w - 1) - of_z w z) ≡ pos (mag z)) × ((2 ^ bits w - 1) - mag z ≡ modulo (bits w) z)
complement w (pos n) f t = absurd (not-suc-le-zero (ltb-true n 0 t))
complement w (negsuc n) f t =
    let h : n < 2 ^ bits w = half_full w f.sfits in
    let e : (2 ^ bits w - 1) - (2 ^ bits w - suc n) ≡ n = omega arith in
    (ap (to_z w) e ∙ to_z_pos w n f.sfits, rw (mod-eq_of_lt h) (omega arith))

-- the bits of a number that is not negative are the number
plain : (w : Width) (z : ℤ) → SFits w z → lt_z z (pos 0) ≡ false → T (non_neg z) × Fits w (nat_abs z) × (nat_abs z ≡ modulo (bits w) z)
plain w (pos n) f t = (tt, record { fits = half_full w f.sfits }, sym (mod-eq_of_lt (half_full w f.sfits)))
plain w (negsuc n) f t = absurd (subst⁻¹ T (sym t) tt)

-- a number that is tested for being below zero: the cast of its complement, and the complement of that; else its own cast
module _ (w : Width) (z : ℤ) (f : SFits w z) where
  flipped : lt_z (to_z w (of_z w z)) (pos 0) ≡ true → (to_z w ((2 ^ bits w - 1) - of_z w z) ≡ pos (mag z)) × ((2 ^ bits w - 1) - mag z ≡ modulo (bits w) z)
  flipped t = complement w z f (ap (λ (y : ℤ). lt_z y (pos 0)) (sym (to_z-of_z f)) ∙ t)

  pub negative_casts : lt_z (to_z w (of_z w z)) (pos 0) ≡ true
      → T (non_neg (to_z w ((2 ^ bits w - 1) - of_z w z))) × Fits w (nat_abs (to_z w ((2 ^ bits w - 1) - of_z w z)))
  negative_casts t = rw (flipped t).0 (tt, record { fits = half_full w f.sfits })

  pub negative_modulo : lt_z (to_z w (of_z w z)) (pos 0) ≡ true → (2 ^ bits w - 1) - nat_abs (to_z w ((2 ^ bits w - 1) - of_z w z)) ≡ modulo (bits w) z
  negative_modulo t = rw (flipped t).0 (flipped t).1

  pub positive_casts : lt_z (to_z w (of_z w z)) (pos 0) ≡ false → T (non_neg (to_z w (of_z w z))) × Fits w (nat_abs (to_z w (of_z w z)))
  positive_casts t = rw (to_z-of_z f) (let p = plain w z f (rw (to_z-of_z f) at t) in (p.0, p.1))

  pub positive_modulo : lt_z (to_z w (of_z w z)) (pos 0) ≡ false → nat_abs (to_z w (of_z w z)) ≡ modulo (bits w) z
  positive_modulo t = rw (to_z-of_z f) (plain w z f (rw (to_z-of_z f) at t)).2

-- the signed reading, modulo 2^N, is the lane again
pub modulo_is : (w : Width) (z : ℤ) → SFits w z → modulo (bits w) z ≡ of_z w z
modulo_is w (pos n) f = mod-eq_of_lt (half_full w f.sfits)
modulo_is w (negsuc n) f = ap (λ (k : ℕ). 2 ^ bits w - suc k) (mod-eq_of_lt (half_full w f.sfits))

pub modulo_signed : (w : Width) (x : ℕ) → Fits w x → modulo (bits w) (signed (bits w) x) ≡ x
modulo_signed w x f = ap (modulo (bits w)) (sym (reads w x f)) ∙ modulo_is w (to_z w x) (to_z-Fits w x f) ∙ of_z-to_z w x f

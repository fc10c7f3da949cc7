-- Negation, absolute value and sign bit of a signed lane, over the width.
-- Assumes nothing.
use Rattle.std.proofs.Common.{◌≡◌, ℕ, zero, suc, ◌-◌, ◌%◌, ◌^◌, ◌<◌, Bool, true, false, cond, T, ℤ, pos, negsuc, ◌-ℤ◌, neg_ℤ, sym, refl, ap, ◌∙◌, not-suc-le-zero, mod-eq_of_lt, arith, pow_pos, to_z-of_z, Fits, SFits, to_z, of_z, ltb-true}
use mathlib.Core.Path.{subst⁻¹}
use native.Mathlib.Nat.{sub-zero, zero-mod, mod_self}
use lib.IntN.{+ℤ_idl}
use lib.Signed.{lt_z, non_neg}
use mir.Syntax.{Width}
use mir.Val.{bits, hbits}
use mir.ValLaws.{half_full, pow-bits, of_z-to_z}
use Rattle.standard.specs.Integer.{signed, modulo, ineg, iabs}
use Rattle.lane_integer.proofs.Signed.{reads}
use Rattle.lane_integer.proofs.Magnitude.{signed_fits}

-- but for the lowest number, the negation fits, and its bits are the bits' negation modulo 2^N
negation : (w : Width) (z : ℤ) → SFits w z → (of_z w z ≡ 2 ^ hbits w → ⊥) → SFits w (neg_ℤ z) × (modulo (bits w) (neg_ℤ z) ≡ ineg (bits w) (of_z w z))
negation w (pos zero) f ne = (record { sfits = pow_pos (hbits w) }, rw (zero-mod, sub-zero, mod_self))
negation w (pos (suc n)) f ne =
    let h : suc n < 2 ^ bits w = half_full w f.sfits in
    let l : n < 2 ^ bits w = omega arith in
    let k : 2 ^ bits w - suc n < 2 ^ bits w = omega arith in
    (record { sfits = (let g = f.sfits in omega arith) }, rw (mod-eq_of_lt l, mod-eq_of_lt k))
negation w (negsuc n) f ne =
    let p = pow-bits w in
    let h : n < 2 ^ hbits w = f.sfits in
    let other : suc n ≡ 2 ^ hbits w → ⊥ = λ e. ne (omega arith) in
    let back : suc n ≡ 2 ^ bits w - (2 ^ bits w - suc n) = omega arith in
    (record { sfits = omega (arith, other) }, ap (λ (k : ℕ). k % 2 ^ bits w) back)

sign : (z : ℤ) (b : Bool) → lt_z z (pos 0) ≡ b → non_neg z ≡ cond b false true
sign (pos n) true t = absurd (not-suc-le-zero (ltb-true n 0 t))
sign (pos n) false t = refl
sign (negsuc n) true t = refl
sign (negsuc n) false t = absurd (subst⁻¹ T (sym t) tt)

-- r is the signed reading of the lane x
module _ (w : Width) (x : ℕ) {r : ℤ} (f : Fits w x) (e : r ≡ signed (bits w) x) where
  held : SFits w r
  held = rw e (signed_fits w x f)

  bits_of : of_z w r ≡ x
  bits_of = ap (of_z w) (e ∙ sym (reads w x f)) ∙ of_z-to_z w x f

  pub lowest : of_z w r ≡ 2 ^ hbits w → x ≡ ineg (bits w) x
  lowest l =
      let p = pow-bits w in
      let h : x ≡ 2 ^ hbits w = sym bits_of ∙ l in
      let k : 2 ^ bits w - x ≡ x = omega arith in
      rw k (sym (mod-eq_of_lt f.fits))

  pub negation_fits : (of_z w r ≡ 2 ^ hbits w → ⊥) → SFits w (pos 0 -ℤ to_z w (of_z w r))
  negation_fits ne = rw (to_z-of_z held, +ℤ_idl) (negation w r held ne).0

  pub negation_is : (of_z w r ≡ 2 ^ hbits w → ⊥) → modulo (bits w) (to_z w (of_z w (pos 0 -ℤ to_z w (of_z w r)))) ≡ ineg (bits w) x
  negation_is ne =
      rw (to_z-of_z (negation_fits ne), to_z-of_z held, +ℤ_idl) ((negation w r held ne).1 ∙ ap (ineg (bits w)) bits_of)

  pub abs_is : (b : Bool) → lt_z (to_z w (of_z w r)) (pos 0) ≡ b → cond b (ineg (bits w) x) x ≡ iabs (bits w) x
  abs_is b t = rw (← e, sign r b (rw (to_z-of_z held) at t)) (pick b)
    where
      pick : (b : Bool) → cond b (ineg (bits w) x) x ≡ cond (cond b false true) x (ineg (bits w) x)
      pick true = refl
      pick false = refl

  pub sign_is : (b : Bool) → lt_z (to_z w (of_z w r)) (pos 0) ≡ b → ◌≡◌ {A = ℕ} (cond b 1 0) (cond (non_neg (signed (bits w) x)) 0 1)
  sign_is b t = rw (← e, sign r b (rw (to_z-of_z held) at t)) (pick b)
    where
      pick : (b : Bool) → ◌≡◌ {A = ℕ} (cond b 1 0) (cond (cond b false true) 0 1)
      pick true = refl
      pick false = refl

-- A number of the width w held to the unsigned or the signed range of a lane of the width v.
-- Assumes nothing.
use mathlib.Core.Path.{◌≡◌, refl, sym, subst⁻¹}
use mathlib.Core.Bool.{true, false}
use mathlib.Core.Logic.{◌⊎◌, inl, inr}
use Prim.Native.Nat.{ℕ, ◌+◌, ◌-◌, ◌^◌, ◌<◌, ◌≤◌}
use native.Mathlib.Nat.{not-suc-le-zero}
use native.Mathlib.Omega.{arith}
use borrow.Author.Tests.{ltb-true, ltb-false, lt-ltb, le-ltb}
use lib.Dec.{T}
use lib.Pow.{pow_pos}
use lib.IntN.{ℤ, pos, negsuc, nat_abs, ◌+ℤ◌, ◌-ℤ◌}
use lib.Signed.{lt_z, non_neg}
use mir.Syntax.{Width, w8, w16, w32, w64, w128}
use mir.Val.{Fits, SFits, bits, hbits, to_z, of_z}
use mir.Facts.{to_z-of_z}
use Rattle.standard.specs.Integer.{modulo, sat_u, sat_s}
use Rattle.lane_integer.proofs.Signed.{minus_below, minus_above}

half : (v : Width) → bits v - 1 ≡ hbits v
half w8 = refl
half w16 = refl
half w32 = refl
half w64 = refl
half w128 = refl

in_unsigned : (v : Width) (z : ℤ) → lt_z z (pos 0) ≡ false → lt_z (pos (2 ^ bits v - 1)) z ≡ false → T (non_neg z) × Fits v (nat_abs z)
in_unsigned v (pos n) s t = (tt, record { fits = omega (arith, ltb-false (2 ^ bits v - 1) n t, pow_pos (bits v)) })
in_unsigned v (negsuc n) s t = absurd (subst⁻¹ T (sym s) tt)

in_signed : (v : Width) (z : ℤ) → lt_z z (negsuc (2 ^ (bits v - 1) - 1)) ≡ false → lt_z (pos (2 ^ (bits v - 1) - 1)) z ≡ false → SFits v z
in_signed v (pos n) s t =
    record { sfits = rw (← half v) (omega (arith, ltb-false (2 ^ (bits v - 1) - 1) n t, pow_pos (bits v - 1))) }
in_signed v (negsuc n) s t =
    record { sfits = rw (← half v) (omega (arith, ltb-false (2 ^ (bits v - 1) - 1) n s, pow_pos (bits v - 1))) }

module _ (v w : Width) (z : ℤ) (f : SFits w z) where
  pub u_below : lt_z (to_z w (of_z w z)) (pos 0) ≡ true → 0 ≡ sat_u (bits v) z
  u_below s = rw (rw (to_z-of_z f) at s)

  pub u_above : lt_z (to_z w (of_z w z)) (pos 0) ≡ false → lt_z (pos (2 ^ bits v - 1)) (to_z w (of_z w z)) ≡ true → 2 ^ bits v - 1 ≡ sat_u (bits v) z
  u_above s t = rw (rw (to_z-of_z f) at s, rw (to_z-of_z f) at t)

  module _ (s : lt_z (to_z w (of_z w z)) (pos 0) ≡ false) (t : lt_z (pos (2 ^ bits v - 1)) (to_z w (of_z w z)) ≡ false) where
    pub u_casts : T (non_neg (to_z w (of_z w z))) × Fits v (nat_abs (to_z w (of_z w z)))
    u_casts = in_unsigned v (to_z w (of_z w z)) s t

    pub u_inside : nat_abs (to_z w (of_z w z)) ≡ sat_u (bits v) z
    u_inside = rw (rw (to_z-of_z f) at s, rw (to_z-of_z f) at t, to_z-of_z f)

  pub s_below : lt_z (to_z w (of_z w z)) (negsuc (2 ^ (bits v - 1) - 1)) ≡ true → modulo (bits v) (negsuc (2 ^ (bits v - 1) - 1)) ≡ sat_s (bits v) z
  s_below s = rw (rw (to_z-of_z f) at s)

  pub s_above : lt_z (to_z w (of_z w z)) (negsuc (2 ^ (bits v - 1) - 1)) ≡ false → lt_z (pos (2 ^ (bits v - 1) - 1)) (to_z w (of_z w z)) ≡ true
      → modulo (bits v) (pos (2 ^ (bits v - 1) - 1)) ≡ sat_s (bits v) z
  s_above s t = rw (rw (to_z-of_z f) at s, rw (to_z-of_z f) at t)

  module _ (s : lt_z (to_z w (of_z w z)) (negsuc (2 ^ (bits v - 1) - 1)) ≡ false) (t : lt_z (pos (2 ^ (bits v - 1) - 1)) (to_z w (of_z w z)) ≡ false) where
    pub s_casts : SFits v (to_z w (of_z w z))
    s_casts = in_signed v (to_z w (of_z w z)) s t

    pub s_inside : modulo (bits v) (to_z v (of_z v (to_z w (of_z w z)))) ≡ sat_s (bits v) z
    s_inside = rw (rw (to_z-of_z f) at s, rw (to_z-of_z f) at t, to_z-of_z s_casts, to_z-of_z f)

-- the upper end alone, where q is z and z is known not to be below the range
module _ (v : Width) {q z : ℤ} (e : q ≡ z) (s : lt_z z (negsuc (2 ^ (bits v - 1) - 1)) ≡ false) where
  pub upper_past : lt_z (pos (2 ^ (bits v - 1) - 1)) q ≡ true → modulo (bits v) (pos (2 ^ (bits v - 1) - 1)) ≡ sat_s (bits v) z
  upper_past t = rw (s, rw e at t)

  pub upper_casts : lt_z (pos (2 ^ (bits v - 1) - 1)) q ≡ false → SFits v q
  upper_casts t = in_signed v q (rw e s) t

  pub upper_inside : lt_z (pos (2 ^ (bits v - 1) - 1)) q ≡ false → modulo (bits v) (to_z v (of_z v q)) ≡ sat_s (bits v) z
  upper_inside t = rw (to_z-of_z (upper_casts t), s, rw e at t, e)

-- the sum and the difference of two lanes, by a test that asks whether they stay in the range
module _ (v : Width) {a b : ℕ} (f : Fits v a) (g : Fits v b) where
  pub sum_inside : a ≤ 2 ^ bits v - 1 - b → a + b ≡ sat_u (bits v) (pos a +ℤ pos b)
  sum_inside h =
      let l : b < 2 ^ bits v = g.fits in
      rw (le-ltb (a + b) 0 (omega arith), le-ltb (2 ^ bits v - 1) (a + b) (omega arith))

  pub sum_past : 2 ^ bits v - 1 - b < a → 2 ^ bits v - 1 ≡ sat_u (bits v) (pos a +ℤ pos b)
  sum_past h = rw (le-ltb (a + b) 0 (omega arith), lt-ltb (2 ^ bits v - 1) (a + b) (omega arith))

  pub difference_inside : b ≤ a → a - b ≡ sat_u (bits v) (pos a -ℤ pos b)
  difference_inside h =
      let l : a < 2 ^ bits v = f.fits in
      rw (minus_above a b h, le-ltb (a - b) 0 (omega arith), le-ltb (2 ^ bits v - 1) (a - b) (omega arith))

  pub difference_past : a < b → 0 ≡ sat_u (bits v) (pos a -ℤ pos b)
  difference_past h = rw (minus_below a b h)

-- two clamps, one after the other: y is z or 0, and x is y or the highest number of the lane
module _ (v w : Width) (z : ℤ) (f : SFits w z) (low : to_z w 0 ≡ pos 0) (high : to_z w (2 ^ bits v - 1) ≡ pos (2 ^ bits v - 1)) where
  pub clamped : {y x : ℕ}
      → ((lt_z (to_z w (of_z w z)) (pos 0) ≡ true) × (y ≡ 0)) ⊎ ((lt_z (to_z w (of_z w z)) (pos 0) ≡ false) × (y ≡ of_z w z))
      → ((lt_z (pos (2 ^ bits v - 1)) (to_z w y) ≡ true) × (x ≡ 2 ^ bits v - 1)) ⊎ ((lt_z (pos (2 ^ bits v - 1)) (to_z w y) ≡ false) × (x ≡ y))
      → (T (non_neg (to_z w x)) × Fits v (nat_abs (to_z w x))) × (nat_abs (to_z w x) ≡ sat_u (bits v) z)
  clamped (inl p) (inl q) = absurd (not-suc-le-zero (ltb-true (2 ^ bits v - 1) 0 (rw (p.1, low) at q.0)))
  clamped (inl p) (inr q) = rw (q.1, p.1, low) ((tt, record { fits = pow_pos (bits v) }), u_below v w z f p.0)
  clamped (inr p) (inl q) = rw (q.1, high) ((tt, record { fits = omega (arith, pow_pos (bits v)) }), u_above v w z f p.0 (rw p.1 at q.0))
  clamped (inr p) (inr q) =
      rw (q.1, p.1) (u_casts v w z f p.0 (rw p.1 at q.0), u_inside v w z f p.0 (rw p.1 at q.0))

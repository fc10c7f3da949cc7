-- How large sums, differences and products of signed numbers can be, and that the machine's result is then the exact one.
-- Assumes nothing.
use Rattle.std.proofs.Common.{◌≡◌, ℕ, zero, suc, ◌+◌, ◌-◌, ◌*◌, ◌^◌, ◌<◌, ◌≤◌, Bool, true, false, cond, T, ltb, leb, ℤ, pos, negsuc, ◌+ℤ◌, ◌-ℤ◌, ◌*ℤ◌, neg_ℤ, refl, ◌∙◌, le_trans, lt_of_lt_of_le, lt_of_le_of_lt, mul-le-mul, arith, leb→le, pow_mono, to_z-of_z, w16, w32, Fits, SFits, to_z, of_z}
use lib.Signed.{mag, shr_z, mag_shr}
use mir.Syntax.{Width}
use mir.Val.{bits, hbits}
use mir.ValLaws.{to_z-Fits}
use Rattle.standard.specs.Integer.{signed, floor}
use Rattle.lane_integer.proofs.Signed.{reads}

mag_either : (a b : ℕ) (t : Bool) → mag (cond t (negsuc (b - suc a)) (pos (a - b))) ≤ a + b
mag_either a b true = omega arith
mag_either a b false = omega arith

mag_sum : (x y : ℤ) → mag (x +ℤ y) ≤ mag x + mag y + 1
mag_sum (pos a) (pos b) = omega arith
mag_sum (pos a) (negsuc b) = omega (arith, mag_either a (suc b) (ltb a (suc b)))
mag_sum (negsuc a) (pos b) = omega (arith, mag_either b (suc a) (ltb b (suc a)))
mag_sum (negsuc a) (negsuc b) = omega arith

mag_negation : (n : ℕ) → mag (neg_ℤ (pos n)) ≤ n
mag_negation zero = omega arith
mag_negation (suc n) = omega arith

mag_negℤ : (x : ℤ) → mag (neg_ℤ x) ≤ mag x + 1
mag_negℤ (pos n) = omega (arith, mag_negation n)
mag_negℤ (negsuc n) = omega arith

mag_product : (x y : ℤ) → mag (x *ℤ y) ≤ suc (mag x) * suc (mag y)
mag_product (pos a) (pos b) = mul-le-mul {n₁ = a} {m₁ = b} (omega arith) (omega arith)
mag_product (pos a) (negsuc b) = le_trans (mag_negation (a * suc b)) (mul-le-mul {n₁ = a} {m₁ = suc b} (omega arith) (omega arith))
mag_product (negsuc a) (pos b) = le_trans (mag_negation (suc a * b)) (mul-le-mul {n₁ = suc a} {m₁ = b} (omega arith) (omega arith))
mag_product (negsuc a) (negsuc b) = mul-le-mul {n₁ = suc a} {m₁ = suc b} (omega arith) (omega arith)

-- two signed numbers of 16 bits have room in 32
module _ (x y : ℤ) (f : SFits w16 x) (g : SFits w16 y) where
  sum_fits : SFits w32 (x +ℤ y)
  sum_fits = record { sfits = (let a = f.sfits in let b = g.sfits in omega (arith, mag_sum x y)) }

  difference_fits : SFits w32 (x -ℤ y)
  difference_fits = record { sfits = (let a = f.sfits in let b = g.sfits in omega (arith, mag_sum x (neg_ℤ y), mag_negℤ y)) }

  small : mag (x *ℤ y) ≤ 2 ^ 30
  small = le_trans (mag_product x y) (mul-le-mul {n₂ = 2 ^ 15} {m₂ = 2 ^ 15} f.sfits g.sfits)

  product_fits : SFits w32 (x *ℤ y)
  product_fits = record { sfits = (let h = small in omega arith) }

  rounded_fits : SFits w32 (x *ℤ y +ℤ pos 16384)
  rounded_fits = record { sfits = (let h = small in omega (arith, mag_sum (x *ℤ y) (pos 16384))) }

-- the signed reading of a lane fits its width
pub signed_fits : (w : Width) (x : ℕ) → Fits w x → SFits w (signed (bits w) x)
signed_fits w x f = rw (← reads w x f) (to_z-Fits w x f)

wider : (v w : Width) {z : ℤ} → T (leb (hbits v) (hbits w)) → mag z < 2 ^ hbits v → SFits w z
wider v w t h = record { sfits = lt_of_lt_of_le h (pow_mono (leb→le (hbits v) (hbits w) t)) }

-- a signed number that is held in bits, and cast to a wider type
pub kept : (w : Width) {z x : ℤ} → mag z < 2 ^ hbits w → z ≡ x → to_z w (of_z w z) ≡ x
kept w h e = to_z-of_z (record { sfits = h }) ∙ e

pub cast_fits : (v w : Width) (z : ℤ) → T (leb (hbits v) (hbits w)) → mag z < 2 ^ hbits v → SFits w (to_z v (of_z v z))
cast_fits v w z t h = rw (kept v h refl) (wider v w t h)

pub cast_kept : (v w : Width) {z x : ℤ} → T (leb (hbits v) (hbits w)) → mag z < 2 ^ hbits v → z ≡ x → to_z w (of_z w (to_z v (of_z v z))) ≡ x
cast_kept v w {z} t h e = to_z-of_z (cast_fits v w z t h) ∙ kept v h e

-- its shift to the right is the floor over 2^k
floor_is : (z : ℤ) (k : ℕ) → shr_z z (2 ^ k) ≡ floor z k
floor_is (pos n) k = refl
floor_is (negsuc n) k = refl

pub shift_kept : (w : Width) {p x : ℤ} (k : ℕ) → SFits w x → p ≡ x → to_z w (of_z w (shr_z p (2 ^ k))) ≡ floor x k
shift_kept w {x = x} k f e =
    rw e (to_z-of_z (record { sfits = lt_of_le_of_lt (mag_shr x (2 ^ k)) f.sfits }) ∙ floor_is x k)

-- an operation of two operands whose values are known, where the exact result fits
exact : (w : Width) (f : ℤ → ℤ → ℤ) {p q x y : ℤ} → p ≡ x → q ≡ y → SFits w (f x y)
    → SFits w (f p q) × (to_z w (of_z w (f p q)) ≡ f x y)
exact w f ep eq h = rw (ep, eq) (h, to_z-of_z h)

-- r and s are the signed readings, in 32 bits, of the lanes a and b of at most 16
module _ (v : Width) (t : T (leb (hbits v) 15)) {a b : ℕ} (f : Fits v a) (g : Fits v b)
    {r s : ℤ} (hr : mag r < 2 ^ 31) (er : r ≡ signed (bits v) a) (hs : mag s < 2 ^ 31) (es : s ≡ signed (bits v) b) where
  fits_a : SFits w16 (signed (bits v) a)
  fits_a = wider v w16 t (signed_fits v a f).sfits

  fits_b : SFits w16 (signed (bits v) b)
  fits_b = wider v w16 t (signed_fits v b g).sfits

  pub sum_exact : SFits w32 (to_z w32 (of_z w32 r) +ℤ to_z w32 (of_z w32 s))
      × (to_z w32 (of_z w32 (to_z w32 (of_z w32 r) +ℤ to_z w32 (of_z w32 s))) ≡ signed (bits v) a +ℤ signed (bits v) b)
  sum_exact = exact w32 ◌+ℤ◌ (kept w32 hr er) (kept w32 hs es) (sum_fits _ _ fits_a fits_b)

  pub difference_exact : SFits w32 (to_z w32 (of_z w32 r) -ℤ to_z w32 (of_z w32 s))
      × (to_z w32 (of_z w32 (to_z w32 (of_z w32 r) -ℤ to_z w32 (of_z w32 s))) ≡ signed (bits v) a -ℤ signed (bits v) b)
  difference_exact = exact w32 ◌-ℤ◌ (kept w32 hr er) (kept w32 hs es) (difference_fits _ _ fits_a fits_b)

  pub product_exact : SFits w32 (to_z w32 (of_z w32 r) *ℤ to_z w32 (of_z w32 s))
      × (to_z w32 (of_z w32 (to_z w32 (of_z w32 r) *ℤ to_z w32 (of_z w32 s))) ≡ signed (bits v) a *ℤ signed (bits v) b)
  product_exact = exact w32 ◌*ℤ◌ (kept w32 hr er) (kept w32 hs es) (product_fits _ _ fits_a fits_b)

  pub rounded_exact : SFits w32 (to_z w32 (of_z w32 (to_z w32 (of_z w32 r) *ℤ to_z w32 (of_z w32 s))) +ℤ pos 16384)
      × (to_z w32 (of_z w32 (to_z w32 (of_z w32 (to_z w32 (of_z w32 r) *ℤ to_z w32 (of_z w32 s))) +ℤ pos 16384)) ≡ signed (bits v) a *ℤ signed (bits v) b +ℤ pos 16384)
  rounded_exact = exact w32 ◌+ℤ◌ product_exact.1 refl (rounded_fits _ _ fits_a fits_b)

  pub rounded_shift : to_z w32 (of_z w32 (shr_z (to_z w32 (of_z w32 (to_z w32 (of_z w32 (to_z w32 (of_z w32 r) *ℤ to_z w32 (of_z w32 s))) +ℤ pos 16384))) (2 ^ 15)))
      ≡ floor (signed (bits v) a *ℤ signed (bits v) b +ℤ pos 16384) 15
  rounded_shift = shift_kept w32 15 (rounded_fits _ _ fits_a fits_b) rounded_exact.1

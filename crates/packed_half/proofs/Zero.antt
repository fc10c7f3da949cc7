-- Lanes of 1 + v bits that are 0, found in a packed half: 2^v - 1 added to the low v bits of a lane sets its top bit where one of them is set.
-- From that: where two halves agree lane by lane, and whether no lane is 0. Assumes nothing.
use mathlib.Core.Path.{◌≡◌, refl, sym, ap, ap₂, ◌∙◌}
use mathlib.Core.Bool.{Bool, true, false, cond}
use mathlib.Core.List.{List, [], ◌∷◌, map}
use Prim.Native.Nat.{ℕ, zero, suc, ◌+◌, ◌-◌, ◌*◌, ◌/◌, ◌%◌, ◌^◌, ◌<◌, ◌≤◌}
use native.Mathlib.Nat.{one-mul, zero-mul, mul-zero, mul-suc, mod_self, zero-mod, div_self, zero-div, div-eq_of_lt, le-div_iff_mul-le, pos_of_ne-zero}
use native.Mathlib.Omega.{arith}
use borrow.Author.Tests.{eqb-true, eqb-false, eq-eqb, ne_eqb}
use lib.Dec.{eqb}
use lib.Pow.{pow_pos, pow-add, split, shr_lt, ones_lt}
use lib.Bits.{bit_and, bit_or, bit_xor, and_mask, mask_lt, or_shr, or_lt, or_add_and, and_le_l, and_le_r, xor_self, xor_zero_l, xor_add_and}
use Rattle.standard.specs.Lanes.{digits, joined}
use Rattle.standard.specs.Integer.{ieq}
use Rattle.standard.specs.Vector.{no_zero}
use Rattle.packed_half.specs.Half.{zero_top}
use Rattle.packed_half.proofs.Packed.{Packed, lanewise, and, or, xor, plus, times, first, second, shift_right, mapped, packed_lt, packed_is, packed_map}
use Rattle.packed_half.proofs.Sum.{lows, tops, low_mask, top_mask, top_bit}

-- the top bit of a lane that is 0
abbrev pub flag : ℕ → ℕ → ℕ
flag v i = cond (eqb i 0) (2 ^ v) 0

-- the low bits of a lane, with all low bits added
abbrev raised : ℕ → ℕ → ℕ
raised v p = bit_and p (2 ^ v - 1) + (2 ^ v - 1)

raised_lt : (v p : ℕ) → raised v p < 2 ^ (1 + v)
raised_lt v p = omega (arith, pow-add 2 1 v, mask_lt p v)

-- the top bit after the sum
found : (v p : ℕ) → p < 2 ^ (1 + v) → (t : Bool) → eqb p 0 ≡ t
    → bit_or (raised v p / 2 ^ v) (p / 2 ^ v) ≡ cond t 0 1
found v p hp true e =
    let low : raised v p < 2 ^ v = omega (arith, eqb-true p 0 e, and_le_l p (2 ^ v - 1), pow_pos v) in
    let whole : p < 2 ^ v = omega (arith, eqb-true p 0 e, pow_pos v) in
    ap₂ bit_or (div-eq_of_lt low) (div-eq_of_lt whole)
found v p hp false e =
    let x : ℕ = raised v p / 2 ^ v in
    let y : ℕ = p / 2 ^ v in
    omega (arith, set y refl, or_add_and x y, and_le_l x y, and_le_r x y, or_lt 1 x y (shr_lt 1 v (raised_lt v p)) (shr_lt 1 v hp))
  where
    set : (y : ℕ) → p / 2 ^ v ≡ y → 1 ≤ raised v p / 2 ^ v + y
    set zero ey =
        let ep : 0 * 2 ^ v + p % 2 ^ v ≡ p = ap (λ (y : ℕ). y * 2 ^ v + p % 2 ^ v) (sym ey) ∙ split p v in
        let some : 1 ≤ p = pos_of_ne-zero (eqb-false p 0 e) in
        let one : 1 ≤ raised v p / 2 ^ v = (le-div_iff_mul-le (pow_pos v)).1 (omega (arith, and_mask p v)) in
        omega arith
    set (suc y) ey = omega arith

zero_lane : (v p : ℕ) → p < 2 ^ (1 + v) → bit_xor (bit_and (bit_or (raised v p) p) (2 ^ v)) (2 ^ v) ≡ flag v p
zero_lane v p hp =
    rw (top_bit v (bit_or (raised v p) p) (or_lt (1 + v) (raised v p) p (raised_lt v p) hp), or_shr, found v p hp (eqb p 0) refl) (left (eqb p 0))
  where
    left : (t : Bool) → bit_xor (cond t 0 1 * 2 ^ v) (2 ^ v) ≡ cond t (2 ^ v) 0
    left true = ap (λ (m : ℕ). bit_xor m (2 ^ v)) (zero-mul (2 ^ v)) ∙ xor_zero_l (2 ^ v)
    left false = ap (λ (m : ℕ). bit_xor m (2 ^ v)) (one-mul (2 ^ v)) ∙ xor_self (2 ^ v)

flag_lt : (v i : ℕ) → flag v i < 2 ^ (1 + v)
flag_lt v i = by (eqb i 0)
  where
    by : (t : Bool) → cond t (2 ^ v) 0 < 2 ^ (1 + v)
    by true = omega (arith, pow-add 2 1 v, pow_pos v)
    by false = pow_pos (1 + v)

module _ (v n a : ℕ) (ha : a < 2 ^ ((1 + v) * n)) where
  low_sum : Packed (1 + v) n a a (bit_and a (lows v n) + lows v n) (λ p q. raised v p)
  low_sum = plus (and (first ha) (low_mask v)) (low_mask v) (λ p q hp hq. raised_lt v p)

  pub zeros_fit : bit_and a (lows v n) + lows v n < 2 ^ ((1 + v) * n)
  zeros_fit = packed_lt low_sum

  pub zeros_are : bit_xor (bit_and (bit_or (bit_and a (lows v n) + lows v n) a) (tops v n)) (tops v n)
      ≡ joined (1 + v) (map (flag v) (digits (1 + v) n a))
  zeros_are = packed_map (xor (and (or low_sum (first ha)) (top_mask v)) (top_mask v)) (flag v) (λ p q hp hq. zero_lane v p hp)

-- no top bit is set: no lane is zero
none_zero : (w t : ℕ) → 0 < t → (ds : List ℕ) → cond (eqb (joined w (map (λ i. cond (eqb i 0) t 0) ds)) 0) 1 0 ≡ no_zero ds
none_zero w t ht [] = refl
none_zero w t ht (d ∷ ds) = by (eqb d 0) (none_zero w t ht ds)
  where
    same : (j : ℕ) → eqb (0 + 2 ^ w * j) 0 ≡ eqb j 0
    same zero = eq-eqb (0 + 2 ^ w * 0) 0 (omega (arith, mul-zero (2 ^ w)))
    same (suc j) = ne_eqb (0 + 2 ^ w * suc j) 0 (λ e. omega (arith, mul-suc (2 ^ w) j, pow_pos w)) ∙ sym (ne_eqb (suc j) 0 (λ e. omega arith))

    j : ℕ
    j = joined w (map (λ i. cond (eqb i 0) t 0) ds)

    by : (s : Bool) → cond (eqb j 0) 1 0 ≡ no_zero ds → cond (eqb (cond s t 0 + 2 ^ w * j) 0) 1 0 ≡ cond s 0 (no_zero ds)
    by true ih = rw (ne_eqb (t + 2 ^ w * j) 0 (λ e. omega arith))
    by false ih = rw (same j) ih

pub all_true_is : (v n a z : ℕ) → z ≡ joined (1 + v) (map (flag v) (digits (1 + v) n a)) → cond (eqb z 0) 1 0 ≡ no_zero (digits (1 + v) n a)
all_true_is v n a z ez = ap (λ (y : ℕ). cond (eqb y 0) 1 0) ez ∙ none_zero (1 + v) (2 ^ v) (pow_pos v) (digits (1 + v) n a)

-- the top bit of each lane where a and b agree, brought down and spread over the lane
apart : (p q : ℕ) → (t : Bool) → eqb p q ≡ t → eqb (bit_xor p q) 0 ≡ t
apart p q true e = eq-eqb (bit_xor p q) 0 (ap (bit_xor p) (sym (eqb-true p q e)) ∙ xor_self p)
apart p q false e = ne_eqb (bit_xor p q) 0 (λ z. eqb-false p q e (omega (arith, xor_add_and p q, and_le_l p q, and_le_r p q)))

spread : (v : ℕ) (t : Bool) → cond t (2 ^ v) 0 / 2 ^ v * (2 ^ (1 + v) - 1) ≡ cond t (2 ^ (1 + v) - 1) 0
spread v true = ap (λ (m : ℕ). m * (2 ^ (1 + v) - 1)) (div_self (pow_pos v)) ∙ one-mul (2 ^ (1 + v) - 1)
spread v false = ap (λ (m : ℕ). m * (2 ^ (1 + v) - 1)) (zero-div (2 ^ v)) ∙ zero-mul (2 ^ (1 + v) - 1)

flag_even : (v i : ℕ) → flag v i % 2 ^ v ≡ 0
flag_even v i = by (eqb i 0)
  where
    by : (t : Bool) → cond t (2 ^ v) 0 % 2 ^ v ≡ 0
    by true = mod_self (2 ^ v)
    by false = zero-mod (2 ^ v)

spread_lt : (v : ℕ) (t : Bool) → cond t (2 ^ (1 + v) - 1) 0 < 2 ^ (1 + v)
spread_lt v true = ones_lt (1 + v)
spread_lt v false = pow_pos (1 + v)

module _ (v n a b z : ℕ) (ha : a < 2 ^ ((1 + v) * n)) (hb : b < 2 ^ ((1 + v) * n))
    (ez : z ≡ joined (1 + v) (map (flag v) (digits (1 + v) n (bit_xor a b)))) where
  spread_flags : Packed (1 + v) n a b (z / 2 ^ v * (2 ^ (1 + v) - 1)) (λ p q. flag v (bit_xor p q) / 2 ^ v * (2 ^ (1 + v) - 1))
  spread_flags =
      rw ez
      (times
      (shift_right (mapped (xor (first ha) (second hb)) (flag v) (λ p q hp hq. flag_lt v (bit_xor p q))) v (λ p q hp hq. flag_even v (bit_xor p q)))
      (2 ^ (1 + v) - 1) (λ p q hp hq. rw (spread v (eqb (bit_xor p q) 0)) (spread_lt v (eqb (bit_xor p q) 0))))

  pub equal_fits : z / 2 ^ v * (2 ^ (1 + v) - 1) < 2 ^ ((1 + v) * n)
  equal_fits = packed_lt spread_flags

  pub equal_is : z / 2 ^ v * (2 ^ (1 + v) - 1) ≡ lanewise (1 + v) n (ieq (1 + v)) a b
  equal_is =
      packed_is spread_flags (ieq (1 + v))
      (λ p q hp hq. spread v (eqb (bit_xor p q) 0) ∙ ap (λ (t : Bool). cond t (2 ^ (1 + v) - 1) 0) (apart p q (eqb p q) refl))

-- a lane of 1 + v bits is zero_top's lane of that width
pub flags : (v n a : ℕ) → joined (1 + v) (map (flag v) (digits (1 + v) n a)) ≡ joined (1 + v) (map (zero_top (1 + v)) (digits (1 + v) n a))
flags v n a =
    let top : v ≡ 1 + v - 1 = omega arith in
    ap (λ (t : ℕ). joined (1 + v) (map (λ i. cond (eqb i 0) (2 ^ t) 0) (digits (1 + v) n a))) top

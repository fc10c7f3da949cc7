-- Sums and differences of packed lanes of 1 + v bits: the low v bits of each lane are added with no carry out of the lane, or taken from a lane
-- whose top bit is set, with no borrow, and the top bits are then put right by an exclusive-or. Assumes nothing.
use mathlib.Core.Path.{◌≡◌, sym, ap, ap₂, ◌∙◌}
use Prim.Native.Nat.{ℕ, ◌+◌, ◌-◌, ◌*◌, ◌/◌, ◌%◌, ◌^◌, ◌<◌, ◌≤◌}
use native.Mathlib.Nat.{one-mul, mod-lt, add-zero, add-mul}
use native.Mathlib.Omega.{arith}
use lib.Dec.{lit<}
use lib.Pow.{pow_pos, pow-add, split, high, low, mod-pow-add, high_ones, shr_mod, shr_lt, ones_sub-lt, ones_lt, le_ones}
use lib.Bits.{bit_and, bit_or, bit_xor, and_mask, and_high, xor_shr, xor_block, xor_zero_r, xor_add_and}
use lib.Bits.{xor_lt, mask_lt, or_block, or_zero_r, or_add_and, and_le_l, or_lt}
use lib.ListN.{replicate}
use Rattle.standard.specs.Lanes.{joined}
use Rattle.standard.specs.Integer.{iadd, isub}
use Rattle.packed_half.proofs.Packed.{Packed, lanewise, and, or, xor, plus, minus, minus_le, first, second, repeat, packed_lt, packed_is}

-- the top bit of a lane
pub top_bit : (v x : ℕ) → x < 2 ^ (1 + v) → bit_and x (2 ^ v) ≡ x / 2 ^ v * 2 ^ v
top_bit v x h =
    ap (bit_and x) (sym (high_ones 1 v ∙ one-mul (2 ^ v))) ∙ and_high x 1 v ∙ ap (λ (t : ℕ). t * 2 ^ v) (shr_mod 1 v h)

three_bits : (x y s : ℕ) → x < 2 → y < 2 → s < 2 → bit_xor s (bit_xor x y) ≡ (x + y + s) % 2
three_bits x y s hx hy hs =
    omega (arith, xor_add_and x y, xor_add_and s (bit_xor x y), xor_lt 1 s (bit_xor x y) hs (xor_lt 1 x y hx hy))

-- two top bits join a sum of v bits by exclusive-or
carry : (v x y s : ℕ) → x < 2 → y < 2 → s < 2 ^ (1 + v) → bit_xor s (bit_xor x y * 2 ^ v) ≡ (x * 2 ^ v + y * 2 ^ v + s) % 2 ^ (1 + v)
carry v x y s hx hy hs =
    ap₂ bit_xor (sym (split s v)) (sym (add-zero (bit_xor x y * 2 ^ v)))
    ∙ xor_block v (s / 2 ^ v) (bit_xor x y) (s % 2 ^ v) 0 (mod-lt s (pow_pos v)) (pow_pos v)
    ∙ ap₂ (λ (h l : ℕ). h * 2 ^ v + l) (three_bits x y (s / 2 ^ v) hx hy (shr_lt 1 v hs)) (xor_zero_r (s % 2 ^ v))
    ∙ sym (mod-pow-add ((x + y + s / 2 ^ v) * 2 ^ v + s % 2 ^ v) 1 v
    ∙ ap₂ (λ (h l : ℕ). h % 2 * 2 ^ v + l) (high (x + y + s / 2 ^ v) v (mod-lt s (pow_pos v))) (low (x + y + s / 2 ^ v) v (mod-lt s (pow_pos v))))
    ∙ ap (λ (m : ℕ). m % 2 ^ (1 + v)) (rw (add-mul, add-mul) (omega (arith, split s v)))

-- the low v bits of two lanes, added
low_fits : (v p q : ℕ) → bit_and p (2 ^ v - 1) + bit_and q (2 ^ v - 1) < 2 ^ (1 + v)
low_fits v p q = omega (arith, pow-add 2 1 v, mask_lt p v, mask_lt q v)

add_lane : (v p q : ℕ) → p < 2 ^ (1 + v) → q < 2 ^ (1 + v)
    → bit_xor (bit_and p (2 ^ v - 1) + bit_and q (2 ^ v - 1)) (bit_and (bit_xor p q) (2 ^ v)) ≡ iadd (1 + v) p q
add_lane v p q hp hq =
    rw (top_bit v (bit_xor p q) (xor_lt (1 + v) p q hp hq), xor_shr)
    (carry v (p / 2 ^ v) (q / 2 ^ v) (bit_and p (2 ^ v - 1) + bit_and q (2 ^ v - 1)) (shr_lt 1 v hp) (shr_lt 1 v hq) (low_fits v p q)
    ∙ ap (λ (m : ℕ). m % 2 ^ (1 + v)) (omega (arith, split p v, split q v, and_mask p v, and_mask q v)))

-- a lane with its top bit set, less the low bits of another
top_set : (v p : ℕ) → p < 2 ^ (1 + v) → bit_or p (2 ^ v) ≡ 2 ^ v + p % 2 ^ v
top_set v p hp =
    ap₂ bit_or (sym (split p v)) (sym (add-zero (1 * 2 ^ v) ∙ one-mul (2 ^ v)))
    ∙ or_block v (p / 2 ^ v) 1 (p % 2 ^ v) 0 (mod-lt p (pow_pos v)) (pow_pos v)
    ∙ ap₂ (λ (h l : ℕ). h * 2 ^ v + l) set (or_zero_r (p % 2 ^ v)) ∙ ap (λ (h : ℕ). h + p % 2 ^ v) (one-mul (2 ^ v))
  where
    set : bit_or (p / 2 ^ v) 1 ≡ 1
    set = omega (arith, or_add_and (p / 2 ^ v) 1, and_le_l (p / 2 ^ v) 1, or_lt 1 (p / 2 ^ v) 1 (shr_lt 1 v hp) (lit< tt))

low_le : (v p q : ℕ) → p < 2 ^ (1 + v) → bit_and q (2 ^ v - 1) ≤ bit_or p (2 ^ v)
low_le v p q hp = omega (arith, top_set v p hp, mask_lt q v)

-- the other bit, and the top bit of the complement
other : (t k : ℕ) → t < 2 → (1 - t) * k + t * k ≡ k
other t k h = sym (add-mul (1 - t) t k) ∙ ap (λ (u : ℕ). u * k) (omega arith) ∙ one-mul k

other_top : (v q : ℕ) → q < 2 ^ (1 + v) → (2 ^ (1 + v) - 1 - q) / 2 ^ v ≡ 1 - q / 2 ^ v
other_top v q hq =
    ap (λ (m : ℕ). m / 2 ^ v) parts ∙ high (1 - q / 2 ^ v) v {lo = 2 ^ v - 1 - q % 2 ^ v} (ones_sub-lt v (q % 2 ^ v))
  where
    parts : 2 ^ (1 + v) - 1 - q ≡ (1 - q / 2 ^ v) * 2 ^ v + (2 ^ v - 1 - q % 2 ^ v)
    parts = omega (arith, pow-add 2 1 v, split q v, other (q / 2 ^ v) (2 ^ v) (shr_lt 1 v hq), mod-lt q (pow_pos v))

sub_lane : (v p q : ℕ) → p < 2 ^ (1 + v) → q < 2 ^ (1 + v)
    → bit_xor (bit_or p (2 ^ v) - bit_and q (2 ^ v - 1)) (bit_and (bit_xor p (2 ^ (1 + v) - 1 - q)) (2 ^ v)) ≡ isub (1 + v) p q
sub_lane v p q hp hq =
    rw (top_bit v (bit_xor p (2 ^ (1 + v) - 1 - q)) (xor_lt (1 + v) p (2 ^ (1 + v) - 1 - q) hp (ones_sub-lt (1 + v) q)), xor_shr, other_top v q hq)
    (carry v (p / 2 ^ v) (1 - q / 2 ^ v) (bit_or p (2 ^ v) - bit_and q (2 ^ v - 1)) (shr_lt 1 v hp) (omega arith)
    (omega (arith, top_set v p hp, pow-add 2 1 v, mod-lt p (pow_pos v)))
    ∙ ap (λ (m : ℕ). m % 2 ^ (1 + v))
    (omega (arith, top_set v p hp, split p v, split q v, and_mask q v, mod-lt q (pow_pos v), pow-add 2 1 v, other (q / 2 ^ v) (2 ^ v) (shr_lt 1 v hq))))

-- the masks: all but the top bit of each of n lanes, the top bit of each, and all of it
abbrev pub lows : ℕ → ℕ → ℕ
lows v n = joined (1 + v) (replicate n (2 ^ v - 1))

abbrev pub tops : ℕ → ℕ → ℕ
tops v n = joined (1 + v) (replicate n (2 ^ v))

abbrev pub alls : ℕ → ℕ → ℕ
alls w n = joined w (replicate n (2 ^ w - 1))

module _ (v : ℕ) {n a b : ℕ} where
  pub low_mask : Packed (1 + v) n a b (lows v n) (λ p q. 2 ^ v - 1)
  low_mask = repeat (2 ^ v - 1) (omega (arith, pow-add 2 1 v, pow_pos v))

  pub top_mask : Packed (1 + v) n a b (tops v n) (λ p q. 2 ^ v)
  top_mask = repeat (2 ^ v) (omega (arith, pow-add 2 1 v, pow_pos v))

module _ (v n a b : ℕ) (ha : a < 2 ^ ((1 + v) * n)) (hb : b < 2 ^ ((1 + v) * n)) where
  low_sum : Packed (1 + v) n a b (bit_and a (lows v n) + bit_and b (lows v n)) (λ p q. bit_and p (2 ^ v - 1) + bit_and q (2 ^ v - 1))
  low_sum = plus (and (first ha) (low_mask v)) (and (second hb) (low_mask v)) (λ p q hp hq. low_fits v p q)

  pub sum_fits : bit_and a (lows v n) + bit_and b (lows v n) < 2 ^ ((1 + v) * n)
  sum_fits = packed_lt low_sum

  pub sum_is : bit_xor (bit_and a (lows v n) + bit_and b (lows v n)) (bit_and (bit_xor a b) (tops v n)) ≡ lanewise (1 + v) n (iadd (1 + v)) a b
  sum_is = packed_is (xor low_sum (and (xor (first ha) (second hb)) (top_mask v))) (iadd (1 + v)) (add_lane v)

  pub difference_fits : bit_and b (lows v n) ≤ bit_or a (tops v n)
  difference_fits = minus_le (or (first ha) (top_mask v)) (and (second hb) (low_mask v)) (λ p q hp hq. low_le v p q hp)

  pub difference_is : bit_xor (bit_or a (tops v n) - bit_and b (lows v n)) (bit_and (bit_xor a (alls (1 + v) n - b)) (tops v n))
      ≡ lanewise (1 + v) n (isub (1 + v)) a b
  difference_is =
      packed_is
      (xor (minus (or (first ha) (top_mask v)) (and (second hb) (low_mask v)) (λ p q hp hq. low_le v p q hp))
      (and (xor (first ha) (minus (repeat (2 ^ (1 + v) - 1) (ones_lt (1 + v))) (second hb) (λ p q hp hq. le_ones (1 + v) hq))) (top_mask v)))
      (isub (1 + v)) (sub_lane v)

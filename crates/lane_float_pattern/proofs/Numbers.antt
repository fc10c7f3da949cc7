-- Whole numbers as patterns, over both formats: a number whose leading digit is moved up to the top of w places keeps the first of them, rounded.
-- Assumes nothing.
use mathlib.Core.Path.{◌≡◌, refl, sym, ap, ap₂, ◌∙◌, subst}
use mathlib.Core.Bool.{Bool, true, false, not, cond}
use Prim.Native.Nat.{ℕ, suc, ◌+◌, ◌-◌, ◌*◌, ◌%◌, ◌^◌, ◌≤◌, ◌<◌, min}
use native.Mathlib.Nat.{le_trans, le_of_eq, lt_of_lt_of_le, zero-lt-suc, zero-mul, add-zero, mod-eq_of_lt, mul-one, mul_assoc, mul-le-mul_right, add_comm}
use native.Mathlib.Nat.{zero-add, mul_right_comm}
use native.Mathlib.Omega.{arith}
use lib.Dec.{T, ltb, leb, lt→ltb, leb→le, nleb→lt, lit≤}
use lib.Arith.{le→nltb}
use lib.IntN.{pos, negsuc, nat_abs}
use lib.Pow.{pow-add, pow_pos, shl_lt, shr_lt}
use lib.Count.{count_leading_zeros, leading_top}
use lib.Ieee.{Format, binary32, binary64, prec, low, round, hid, ones, top, to_bits, of_int}
use lib.Ieee.Bits.{is_true, is_false}
use lib.Ieee.Scale.{round_same}
use lib.Ieee.Nearest.{closest}
use Rattle.standard.specs.Integer.{signed}
use Rattle.standard.specs.Convert.{convert_u, convert_s}
use Rattle.lane_float_pattern.proofs.Rounding.{twice_hid, signed_round, magnitude_le, sign_fits}
use Rattle.lane_float_pattern.proofs.Significand.{closest_le, normal}
use Rattle.lane_float_pattern.proofs.Chosen.{chosen_whole}

pub least : (a b : ℕ) → a ≤ b → min a b ≡ a
least a b h = omega arith

-- n * 2 ^ k / 2 ^ l in the normal range: moved up by e places, n has its leading digit at the top of w
module _ (f : Format) (w e n : ℕ) (small : n * 2 ^ e < 2 ^ w) (first : 2 ^ (w - 1) ≤ n * 2 ^ e) (enough : prec f ≤ w) where
  pub kept_le : closest (n * 2 ^ e) (2 ^ (w - prec f)) ≤ 2 * hid f
  kept_le = le_trans (closest_le (n * 2 ^ e) (w - prec f) (2 ^ prec f)
      (shr_lt (prec f) (w - prec f) (subst (λ (x : ℕ). n * 2 ^ e < 2 ^ x) (go w (prec f) enough) small))) (le_of_eq (twice_hid f))
    where
      go : (w p : ℕ) → p ≤ w → w ≡ p + (w - p)
      go w p h = omega arith

  pub moved : (s : Bool) (k l d : ℕ) → d + (l + e + prec f) ≡ w + (k + low f) → 0 < d → d + 2 ≤ ones f
      → to_bits f (round f s (n * 2 ^ k) (2 ^ l)) ≡ cond s (top f) 0 + (d * hid f + closest (n * 2 ^ e) (2 ^ (w - prec f)))
  moved s k l d g some fine =
      ap (to_bits f) (round_same f s (n * 2 ^ k) (2 ^ l) (n * 2 ^ e * 2 ^ k) (2 ^ (l + e)) (pow_pos l) (pow_pos (l + e)) same)
      ∙ normal f w (l + e) (n * 2 ^ e) k small s first enough (room d l e w (k + low f) (prec f) g some) d g
      ∙ ap (λ (x : ℕ). cond s (top f) 0 + x) (least (d * hid f + closest (n * 2 ^ e) (2 ^ (w - prec f))) (ones f * hid f)
      (le_trans (place d (hid f) (closest (n * 2 ^ e) (2 ^ (w - prec f))) kept_le) (mul-le-mul_right (hid f) fine)))
    where
      place : (d h c : ℕ) → c ≤ 2 * h → d * h + c ≤ (d + 2) * h
      place d h c l = omega arith

      room : (d l e w m p : ℕ) → d + (l + e + p) ≡ w + m → 0 < d → l + e < w + m
      room d l e w m p g h = omega arith

      same : n * 2 ^ k * 2 ^ (l + e) ≡ n * 2 ^ e * 2 ^ k * 2 ^ l
      same =
          ap (λ (x : ℕ). n * 2 ^ k * x) (ap (λ (x : ℕ). 2 ^ x) (add_comm l e) ∙ pow-add 2 e l)
          ∙ sym (mul_assoc (n * 2 ^ k) (2 ^ e) (2 ^ l))
          ∙ ap (λ (x : ℕ). x * 2 ^ l) (mul_right_comm n (2 ^ k) (2 ^ e))

-- ---- a number of 32 bits that is not zero, with its leading digit moved up
module _ (n : ℕ) (N : 0 < n) (F : n < 2 ^ 32) where
  abbrev z : ℕ
  z = count_leading_zeros 32 n

  t : (j : ℕ) × (z + suc j ≡ 32) × (2 ^ j ≤ n) × (n < 2 ^ suc j)
  t = leading_top 32 n N F

  pub z_lt : z < 32
  z_lt = go z t.0 t.1
    where
      go : (z j : ℕ) → z + suc j ≡ 32 → z < 32
      go z j e = omega arith

  pub moved_lt : (i : ℕ) → n * 2 ^ (z + i) < 2 ^ (32 + i)
  moved_lt i = subst (λ (x : ℕ). n * 2 ^ (z + i) < 2 ^ x) (go z t.0 t.1) (shl_lt (suc t.0) (z + i) t.3)
    where
      go : (z j : ℕ) → z + suc j ≡ 32 → suc j + (z + i) ≡ 32 + i
      go z j e = omega arith

  pub moved_ge : (i : ℕ) → 2 ^ (31 + i) ≤ n * 2 ^ (z + i)
  moved_ge i = le_trans (le_of_eq (ap (λ (x : ℕ). 2 ^ x) (go z t.0 t.1) ∙ pow-add 2 t.0 (z + i))) (mul-le-mul_right (2 ^ (z + i)) t.2)
    where
      go : (z j : ℕ) → z + suc j ≡ 32 → 31 + i ≡ j + (z + i)
      go z j e = omega arith

  -- in binary32, which keeps 24 digits of 32
  shifted : n * 2 ^ z % 2 ^ 32 ≡ n * 2 ^ (z + 0)
  shifted = ap (λ (x : ℕ). n * 2 ^ x % 2 ^ 32) (sym (add-zero z)) ∙ mod-eq_of_lt (moved_lt 0)

  field32 : (157 - z) * 2 ^ 23 % 2 ^ 32 ≡ (157 - z) * 2 ^ 23
  field32 = go z
    where
      go : (z : ℕ) → (157 - z) * 8388608 % 4294967296 ≡ (157 - z) * 8388608
      go z = omega arith

  pub narrow : (157 - z) * 2 ^ 23 % 2 ^ 32 + closest (n * 2 ^ z % 2 ^ 32) (2 ^ 8) ≡ convert_u binary32 n
  unfolding of_int
  narrow =
      ap₂ (λ (x y : ℕ). x + closest y (2 ^ 8)) field32 shifted
      ∙ sym (ap (λ (x : ℕ). to_bits binary32 (round binary32 false x 1)) (sym (mul-one n))
      ∙ moved binary32 32 (z + 0) n (moved_lt 0) (moved_ge 0) (lit≤ tt) false 0 0 (157 - z) (sum z z_lt) (some z z_lt) (fine z)
      ∙ zero-add _)
    where
      sum : (z : ℕ) → z < 32 → 157 - z + (0 + (z + 0) + 24) ≡ 32 + (0 + 149)
      sum z h = omega arith

      some : (z : ℕ) → z < 32 → 0 < 157 - z
      some z h = omega arith

      fine : (z : ℕ) → 157 - z + 2 ≤ 255
      fine z = omega arith

  -- in binary64, which keeps them all, over 2 ^ l
  field64 : (l : ℕ) → (1053 - l - z) * 2 ^ 52 % 2 ^ 64 ≡ (1053 - l - z) * 2 ^ 52
  field64 l = go z l
    where
      go : (z l : ℕ) → (1053 - l - z) * 4503599627370496 % 18446744073709551616 ≡ (1053 - l - z) * 4503599627370496
      go z l = omega arith

  shifted64 : n * 2 ^ (z + 21) % 2 ^ 64 ≡ n * 2 ^ (z + 21)
  shifted64 = mod-eq_of_lt (lt_of_lt_of_le (moved_lt 21) (lit≤ tt))

  pub wide : (l : ℕ) → l < 150 → (1053 - l - z) * 2 ^ 52 % 2 ^ 64 + n * 2 ^ (z + 21) % 2 ^ 64 ≡ to_bits binary64 (round binary64 false n (2 ^ l))
  wide l L =
      ap₂ ◌+◌ (field64 l) shifted64
      ∙ sym (ap (λ (x : ℕ). to_bits binary64 (round binary64 false x (2 ^ l))) (sym (mul-one n))
      ∙ moved binary64 53 (z + 21) n (moved_lt 21) (moved_ge 21) (lit≤ tt) false 0 l (1053 - l - z) (sum z l z_lt L) (some z l z_lt L) (fine z l)
      ∙ zero-add _
      ∙ ap (λ (x : ℕ). (1053 - l - z) * 2 ^ 52 + x) (chosen_whole true false (n * 2 ^ (z + 21))))
    where
      sum : (z l : ℕ) → z < 32 → l < 150 → 1053 - l - z + (l + (z + 21) + 53) ≡ 53 + (0 + 1074)
      sum z l h k = omega arith

      some : (z l : ℕ) → z < 32 → l < 150 → 0 < 1053 - l - z
      some z l h k = omega arith

      fine : (z l : ℕ) → 1053 - l - z + 2 ≤ 2047
      fine z l = omega arith

pub zero_pattern : (f : Format) (c : ℕ) → 0 < c → 0 ≡ to_bits f (round f false 0 c)
unfolding to_bits round
zero_pattern f c C = closed f ∙ ap (to_bits f) (round_same f false 0 1 0 c (zero-lt-suc 0) C (zero-mul c ∙ sym (zero-mul 1)))
  where
    closed : (f : Format) → 0 ≡ to_bits f (round f false 0 1)
    closed binary32 = refl
    closed binary64 = refl

-- ---- a signed lane

module _ (n : ℕ) where
  pub reads_low : n < 2 ^ 31 → signed 32 n ≡ pos n
  reads_low h = rw (is_true (ltb n (2 ^ 31)) (lt→ltb n (2 ^ 31) h))

  pub reads_high : 2 ^ 31 ≤ n → n < 2 ^ 32 → signed 32 n ≡ negsuc (2 ^ 32 - suc n)
  reads_high h F = rw (is_false (ltb n (2 ^ 31)) (le→nltb n (2 ^ 31) h), is_true (ltb n (2 ^ 32)) (lt→ltb n (2 ^ 32) F))

  pub signed_lane : (f : Format) → n < 2 ^ 32 → cond (leb (2 ^ 31) n) (top f) 0 + convert_u f (nat_abs (signed 32 n)) ≡ convert_s f n
  unfolding of_int
  signed_lane f F = go (leb (2 ^ 31) n) (leb→le (2 ^ 31) n) (nleb→lt (2 ^ 31) n)
    where
      go : (t : Bool) → (T t → 2 ^ 31 ≤ n) → (T (not t) → n < 2 ^ 31) → cond t (top f) 0 + convert_u f (nat_abs (signed 32 n)) ≡ convert_s f n
      go true h k = rw (reads_high (h tt) F) (signed_round f true (suc (2 ^ 32 - suc n)) 1)
      go false h k = rw (reads_low (k tt)) (signed_round f false n 1)

  pub lane_fits : (f : Format) (m : ℕ) → cond (leb (2 ^ 31) n) (top f) 0 + convert_u f m < 2 * top f
  unfolding of_int
  lane_fits f m = sign_fits f (leb (2 ^ 31) n) (convert_u f m) (magnitude_le f m 1)

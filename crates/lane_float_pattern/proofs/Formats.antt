-- A pattern of one format in the other: demote by the field x of its exponent, and promote, where nothing is lost. Assumes nothing.
use mathlib.Core.Path.{◌≡◌, sym, ap, ◌∙◌}
use mathlib.Core.Bool.{Bool, true, false, cond}
use mathlib.Core.Logic.{◌⊎◌, inl, inr}
use Prim.Native.Nat.{ℕ, zero, suc, ◌+◌, ◌-◌, ◌*◌, ◌/◌, ◌%◌, ◌^◌, ◌≤◌, ◌<◌, min, compare}
use native.Mathlib.Nat.{le_trans, le_of_eq, lt_of_lt_of_le, lt_of_le_of_lt, mul-one, mul-le-mul_right, add-zero, zero-add, le-div_iff_mul-le, eq-or-lt_of_le}
use native.Mathlib.Nat.{suc-ne-zero}
use native.Mathlib.Omega.{arith}
use lib.Dec.{ltb, leb, lit≤, lit<}
use lib.Arith.{le→nltb}
use lib.Pow.{pow_pos, pow_mono, shl_lt, shr_lt}
use lib.Ieee.{nan, Format, binary32, binary64, low, round, hid, ones, top, of_bits, to_bits}
use lib.Ieee.Bits.{is_false}
use lib.Ieee.Nearest.{closest, nearest-ge}
use Rattle.standard.specs.Convert.{from, demote, promote}
use Rattle.lane_float_pattern.proofs.Rounding.{signed_round}
use Rattle.lane_float_pattern.proofs.Fields.{field, field_le, digits, magnitude, value, lead, digits_lt, led, infinite, not_a_number, magnitude_is}
use Rattle.lane_float_pattern.proofs.Significand.{from_value, closest_le, normal, subnormal}
use Rattle.lane_float_pattern.proofs.Chosen.{chosen_whole, chosen_below}
use Rattle.lane_float_pattern.proofs.Numbers.{least, moved}

-- from one format f to another g
module _ (f g : Format) (b : ℕ) where
  pub of_nan : ones f * hid f < b % top f → to_bits g nan ≡ to_bits g (from (round g) (of_bits f b))
  unfolding from
  of_nan h = rw (← not_a_number f b h)

  of_infinity : field f b ≡ ones f → b % top f ≤ ones f * hid f → cond (leb (top f) b) (top g) 0 + ones g * hid g ≡ to_bits g (from (round g) (of_bits f b))
  unfolding from to_bits
  of_infinity e h = rw (infinite f b e h)

  finite : field f b < ones f → to_bits g (from (round g) (of_bits f b)) ≡ to_bits g (round g (leb (top f) b) (magnitude f b) (2 ^ low f))
  finite h = ap (to_bits g) (from_value g (of_bits f b) (leb (top f) b) (magnitude f b) (2 ^ low f) (pow_pos (low f)) (value f b h))

-- ---- demote
module _ (b : ℕ) where
  abbrev x : ℕ
  x = field binary64 b

  abbrev D : ℕ
  D = digits binary64 b

  abbrev s : Bool
  s = leb (2 ^ 63) b

  small : D < 2 ^ 53
  small = digits_lt binary64 b

  -- less than half of the smallest value
  pub far_below : x < 863 → cond s (2 ^ 31) 0 ≡ demote b
  far_below h =
      let i = 1074 - (x - 1 + 149) in
      sym (finite binary64 binary32 b (lt_of_lt_of_le h (lit≤ tt))
      ∙ subnormal binary32 53 (low binary64) D (x - 1) small s (under x h) i (join x h)
      ∙ ap (λ (y : ℕ). cond s (2 ^ 31) 0 + min (0 + y) (255 * 2 ^ 23)) (nothing D i (lt_of_lt_of_le (twice D small) (pow_mono (gap x h))))
      ∙ add-zero (cond s (2 ^ 31) 0))
    where
      under : (x : ℕ) → x < 863 → 53 + (x - 1 + 149) ≤ 1098
      under x h = omega arith

      join : (x : ℕ) → x < 863 → x - 1 + 149 + (1074 - (x - 1 + 149)) ≡ 1074
      join x h = omega arith

      gap : (x : ℕ) → x < 863 → 54 ≤ 1074 - (x - 1 + 149)
      gap x h = omega arith

      twice : (D : ℕ) → D < 9007199254740992 → D * 2 < 18014398509481984
      twice D h = omega arith

      half : (n c : ℕ) → n * 2 < c → (n < c) × (n * 2 ≤ c)
      half n c h = (omega arith, omega arith)

      nothing : (n i : ℕ) → n * 2 < 2 ^ i → closest n (2 ^ i) ≡ 0
      nothing n i h =
          chosen_below true false n (2 ^ i) (half n (2 ^ i) h).0
          ∙ ap (λ (t : Bool). cond t 1 0) (is_false (ltb (2 ^ i) (n * 2)) (le→nltb (2 ^ i) (n * 2) (half n (2 ^ i) h).1))

  pub kept_le : (i : ℕ) → 29 ≤ i → closest D (2 ^ i) ≤ 2 ^ 24
  kept_le i h = closest_le D i (2 ^ 24) (shr_lt 24 i (lt_of_lt_of_le small (pow_mono (go i h))))
    where
      go : (i : ℕ) → 29 ≤ i → 53 ≤ 24 + i
      go i h = omega arith

  pub below : 863 ≤ x → x < 897 → cond s (2 ^ 31) 0 + closest D (2 ^ (926 - x)) ≡ demote b
  below g h =
      sym (finite binary64 binary32 b (lt_of_lt_of_le h (lit≤ tt))
      ∙ subnormal binary32 53 (low binary64) D (x - 1) small s (under x h) (926 - x) (join x g h)
      ∙ ap (λ (y : ℕ). cond s (2 ^ 31) 0 + y) (ap (λ (y : ℕ). min y (255 * 2 ^ 23)) (zero-add (closest D (2 ^ (926 - x))))
      ∙ least (closest D (2 ^ (926 - x))) (255 * 2 ^ 23) (le_trans (kept_le (926 - x) (wide x h)) (lit≤ tt))))
    where
      under : (x : ℕ) → x < 897 → 53 + (x - 1 + 149) ≤ 1098
      under x h = omega arith

      join : (x : ℕ) → 863 ≤ x → x < 897 → x - 1 + 149 + (926 - x) ≡ 1074
      join x g h = omega arith

      wide : (x : ℕ) → x < 897 → 29 ≤ 926 - x
      wide x h = omega arith

  held : 897 ≤ x → x < 2047 → demote b ≡ cond s (2 ^ 31) 0 + min ((x - 897) * 2 ^ 23 + closest D (2 ^ 29)) (255 * 2 ^ 23)
  held g h =
      finite binary64 binary32 b h
      ∙ normal binary32 53 (low binary64) D (x - 1) small s (led binary64 b (some x g)) (lit≤ tt) (room x g) (x - 897) (sum x g)
    where
      some : (x : ℕ) → 897 ≤ x → 0 < x
      some x g = omega arith

      room : (x : ℕ) → 897 ≤ x → 1074 < 53 + (x - 1 + 149)
      room x g = omega arith

      sum : (x : ℕ) → 897 ≤ x → x - 897 + 1098 ≡ 53 + (x - 1 + 149)
      sum x g = omega arith

  pub inside : 897 ≤ x → x ≤ 1150 → cond s (2 ^ 31) 0 + ((x - 897) * 2 ^ 23 + closest D (2 ^ 29)) ≡ demote b
  inside g h =
      sym (held g (lt_of_le_of_lt h (lit< tt))
      ∙ ap (λ (y : ℕ). cond s (2 ^ 31) 0 + y) (least ((x - 897) * 2 ^ 23 + closest D (2 ^ 29)) (255 * 2 ^ 23)
      (go x (closest D (2 ^ 29)) h (kept_le 29 (lit≤ tt)))))
    where
      go : (x c : ℕ) → x ≤ 1150 → c ≤ 16777216 → (x - 897) * 8388608 + c ≤ 2139095040
      go x c h k = omega arith

  -- from 2 ^ 128 on, and an infinity
  pub above : 1150 < x → b % 2 ^ 63 ≤ 2047 * 2 ^ 52 → cond s (2 ^ 31) 0 + 255 * 2 ^ 23 ≡ demote b
  above h n = go (eq-or-lt_of_le (field_le binary64 b))
    where
      most : (a c : ℕ) → c ≤ a → min a c ≡ c
      most a c h = omega arith

      big : (x c : ℕ) → 1150 < x → 8388608 ≤ c → 2139095040 ≤ (x - 897) * 8388608 + c
      big x c h k = omega arith

      some : (x : ℕ) → 1150 < x → (0 < x) × (897 ≤ x)
      some x g = (omega arith, omega arith)

      kept_some : 2 ^ 23 ≤ closest D (2 ^ 29)
      kept_some = le_trans ((le-div_iff_mul-le (pow_pos 29)).1 (led binary64 b (some x h).0)) (nearest-ge (D / 2 ^ 29) (compare (D % 2 ^ 29 * 2) (2 ^ 29)))

      go : (x ≡ 2047) ⊎ (x < 2047) → cond s (2 ^ 31) 0 + 255 * 2 ^ 23 ≡ demote b
      go (inl e) = of_infinity binary64 binary32 b e n
      go (inr l) = sym (held (some x h).1 l ∙ ap (λ (y : ℕ). cond s (2 ^ 31) 0 + y)
          (most ((x - 897) * 2 ^ 23 + closest D (2 ^ 29)) (255 * 2 ^ 23) (big x (closest D (2 ^ 29)) h kept_some)))

-- ---- promote
module _ (b : ℕ) where
  abbrev y : ℕ
  y = field binary32 b

  abbrev t : Bool
  t = leb (2 ^ 31) b

  pub infinity_kept : 254 < y → b % 2 ^ 31 ≤ 255 * 2 ^ 23 → cond t (2 ^ 63) 0 + 2047 * 2 ^ 52 ≡ promote b
  infinity_kept h n = of_infinity binary32 binary64 b (last y h (field_le binary32 b)) n
    where
      last : (y : ℕ) → 254 < y → y ≤ 255 → y ≡ 255
      last y h k = omega arith

  -- a field of 0: the digits over 2 ^ 149
  pub no_field : y ≡ 0 → cond t (2 ^ 63) 0 + to_bits binary64 (round binary64 false (b % 2 ^ 23) (2 ^ 149)) ≡ promote b
  no_field e =
      signed_round binary64 t (b % 2 ^ 23) (2 ^ 149)
      ∙ sym (finite binary32 binary64 b (lt_of_le_of_lt (le_of_eq e) (lit< tt)) ∙ ap (λ (n : ℕ). to_bits binary64 (round binary64 t n (2 ^ 149))) (go y e))
    where
      go : (x : ℕ) → x ≡ 0 → (lead binary32 x + b % 2 ^ 23) * 2 ^ (x - 1) ≡ b % 2 ^ 23
      go zero e = mul-one (0 + b % 2 ^ 23) ∙ zero-add (b % 2 ^ 23)
      go (suc x) e = absurd (suc-ne-zero x e)

  pub some_field : 0 < y → y ≤ 254 → cond t (2 ^ 63) 0 + (b % 2 ^ 31 * 2 ^ 29 + 896 * 2 ^ 52) ≡ promote b
  some_field g h =
      sym (finite binary32 binary64 b (lt_of_le_of_lt h (lit< tt))
      ∙ moved binary64 53 29 (digits binary32 b) (shl_lt 24 29 (digits_lt binary32 b)) (mul-le-mul_right (2 ^ 29) (led binary32 b g)) (lit≤ tt) t
      (y - 1) 149 (y + 895) (sum y g) (some y) (fine y h)
      ∙ ap (λ (n : ℕ). cond t (2 ^ 63) 0 + ((y + 895) * 2 ^ 52 + n)) (chosen_whole true false (digits binary32 b * 2 ^ 29))
      ∙ ap (λ (n : ℕ). cond t (2 ^ 63) 0 + n) (go y (digits binary32 b) (b % 2 ^ 31) g (magnitude_is binary32 b g)))
    where
      sum : (y : ℕ) → 0 < y → y + 895 + (149 + 29 + 53) ≡ 53 + (y - 1 + 1074)
      sum y g = omega arith

      some : (y : ℕ) → 0 < y + 895
      some y = omega arith

      fine : (y : ℕ) → y ≤ 254 → y + 895 + 2 ≤ 2047
      fine y h = omega arith

      go : (y d m : ℕ) → 0 < y → (y - 1) * 8388608 + d ≡ m → (y + 895) * 4503599627370496 + d * 536870912 ≡ m * 536870912 + 4035225266123964416
      go y d m g e = omega arith

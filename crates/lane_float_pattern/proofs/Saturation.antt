-- The whole part of a pattern's magnitude, held to 32 bits, over both formats, and the lanes of either sign from it. Assumes nothing.
use mathlib.Core.Path.{◌≡◌, refl, sym, ap, ◌∙◌}
use mathlib.Core.Logic.{◌⊎◌, inl, inr}
use mathlib.Core.Bool.{Bool, true, false, not, cond}
use Prim.Native.Nat.{ℕ, zero, suc, ◌+◌, ◌-◌, ◌*◌, ◌/◌, ◌%◌, ◌^◌, ◌≤◌, ◌<◌, min}
use native.Mathlib.Nat.{le_trans, le_of_eq, lt_of_lt_of_le, lt_of_le_of_lt, mul_assoc, mul-le-mul_right, le-div_iff_mul-le, div-eq_of_lt, eq-or-lt_of_le}
use native.Mathlib.Nat.{lt_irrefl}
use native.Mathlib.Omega.{arith}
use lib.IntN.{pos, neg_ℤ}
use lib.Dec.{T, ltb, leb, ltb→lt, nltb→le, lit<}
use lib.Pow.{pow-add, pow_pos, pow_mono, shl_lt, shr_lt}
use lib.Ieee.{Float, nan, inf, fin, Format, binary32, binary64, prec, emax, low, up, down, neg, hid, ones, top, of_bits, to_unsigned, to_signed}
use lib.Ieee.Fits.{two, down_pos}
use lib.Ieee.Exact.{HasValue}
use lib.Ieee.Nearest.{div_same}
use Rattle.standard.specs.Integer.{modulo}
use Rattle.standard.specs.Convert.{trunc_sat_u}
use Rattle.lane_float_pattern.proofs.Fields.{field, field_le, digits, magnitude, emax_some, digits_lt, led, by_sign, clear_value, clear_infinite}
use Rattle.lane_float_pattern.proofs.Fields.{clear_nan, Clear, is_clear}

part_value : (x : Float) (a c : ℕ) → 0 < c → HasValue x false a c → to_unsigned 32 x ≡ min (a / c) (2 ^ 32 - 1)
unfolding to_unsigned
part_value nan a c C h = absurd h
part_value (inf t) a c C h = absurd h
part_value (fin t m e) a c C h = rw h.0 (ap (λ (q : ℕ). min q (2 ^ 32 - 1)) (div_same (m * up e) (down e) a c (down_pos e) C h.1))

module _ (f : Format) (b : ℕ) where
  abbrev x : ℕ
  x = field f b

  abbrev D : ℕ
  D = digits f b

  -- the whole part of the magnitude
  abbrev part : ℕ
  part = trunc_sat_u f (b % top f)

  pub part_of_nan : ones f * hid f < b % top f → 0 ≡ part
  unfolding to_unsigned
  part_of_nan h = ap (to_unsigned 32) (clear_nan f b h)

  held : x < ones f → part ≡ min (D * 2 ^ (x - 1) / 2 ^ low f) (2 ^ 32 - 1)
  held h = part_value (of_bits f (b % top f)) (magnitude f b) (2 ^ low f) (pow_pos (low f)) (clear_value f b h)

  pub part_small : x < emax f → 0 ≡ part
  part_small h =
      sym (held (lt_of_lt_of_le h (least (emax f)))
      ∙ ap (λ (q : ℕ). min q (2 ^ 32 - 1)) (div-eq_of_lt
      (lt_of_lt_of_le (shl_lt (prec f) (x - 1) (digits_lt f b)) (pow_mono (exp (prec f) (emax f) x (two f) (emax_some f) h)))))
    where
      least : (e : ℕ) → e ≤ 2 * e + 1
      least e = omega arith

      exp : (p e x : ℕ) → 2 ≤ p → 2 < e → x < e → p + (x - 1) ≤ e + p - 2
      exp p e x a c h = omega arith

  pub part_large : b % top f ≤ ones f * hid f → emax f + 31 < x → 2 ^ 32 - 1 ≡ part
  unfolding to_unsigned
  part_large n h = sym (go (eq-or-lt_of_le (field_le f b)))
    where
      most : (a : ℕ) → 4294967296 ≤ a → min a 4294967295 ≡ 4294967295
      most a h = omega arith

      some : (e x : ℕ) → e + 31 < x → 0 < x
      some e x h = omega arith

      exp : (p e x : ℕ) → 2 ≤ p → e + 31 < x → 32 + (e + p - 2) ≤ p - 1 + (x - 1)
      exp p e x a h = omega arith

      big : 2 ^ 32 ≤ D * 2 ^ (x - 1) / 2 ^ low f
      big =
          (le-div_iff_mul-le (pow_pos (low f))).1
          (le_trans (le_of_eq (sym (pow-add 2 32 (low f))))
          (le_trans (pow_mono (exp (prec f) (emax f) x (two f) h))
          (le_trans (le_of_eq (pow-add 2 (prec f - 1) (x - 1))) (mul-le-mul_right (2 ^ (x - 1)) (led f b (some (emax f) x h))))))

      go : (x ≡ ones f) ⊎ (x < ones f) → part ≡ 2 ^ 32 - 1
      go (inl e) = ap (to_unsigned 32) (clear_infinite f b e n)
      go (inr l) = held l ∙ most (D * 2 ^ (x - 1) / 2 ^ low f) big

  -- the digits moved up by i places, then down
  pub part_middle : (i : ℕ) → 0 < x → x ≤ low f + suc i → x ≤ emax f + 31 → D * 2 ^ i / 2 ^ (low f + suc i - x) ≡ part
  part_middle i X R h =
      same ∙ sym (held (lt_of_le_of_lt h (inside (emax f) (wide f))) ∙ least (D * 2 ^ (x - 1) / 2 ^ low f) under)
    where
      wide : (f : Format) → 30 < emax f
      wide binary32 = lit< tt
      wide binary64 = lit< tt

      inside : (e : ℕ) → 30 < e → e + 31 < 2 * e + 1
      inside e h = omega arith

      least : (a : ℕ) → a < 4294967296 → min a 4294967295 ≡ a
      least a h = omega arith

      exp : (p e x : ℕ) → 2 ≤ p → 0 < x → x ≤ e + 31 → p + (x - 1) ≤ 32 + (e + p - 2)
      exp p e x a g h = omega arith

      under : D * 2 ^ (x - 1) / 2 ^ low f < 2 ^ 32
      under = shr_lt 32 (low f) (lt_of_lt_of_le (shl_lt (prec f) (x - 1) (digits_lt f b)) (pow_mono (exp (prec f) (emax f) x (two f) X h)))

      sum : (x w i : ℕ) → 0 < x → x ≤ w + suc i → i + w ≡ x - 1 + (w + suc i - x)
      sum x w i g h = omega arith

      same : D * 2 ^ i / 2 ^ (low f + suc i - x) ≡ D * 2 ^ (x - 1) / 2 ^ low f
      same =
          div_same (D * 2 ^ i) (2 ^ (low f + suc i - x)) (D * 2 ^ (x - 1)) (2 ^ low f) (pow_pos (low f + suc i - x)) (pow_pos (low f))
          (mul_assoc D (2 ^ i) (2 ^ low f)
          ∙ ap (λ (y : ℕ). D * y) (sym (pow-add 2 i (low f)) ∙ ap (λ (y : ℕ). 2 ^ y) (sum x (low f) i X R) ∙ pow-add 2 (x - 1) (low f + suc i - x))
          ∙ sym (mul_assoc D (2 ^ (x - 1)) (2 ^ (low f + suc i - x))))

-- ---- the lanes

unsigned_set : (v : Float) → Clear v → to_unsigned 32 (neg v) ≡ 0
unfolding to_unsigned neg
unsigned_set nan h = refl
unsigned_set (inf s) h = rw h
unsigned_set (fin s m e) h = rw h

signed_clear : (v : Float) → Clear v → to_signed 31 v ≡ pos (min (to_unsigned 32 v) (2 ^ 31 - 1))
unfolding to_signed to_unsigned
signed_clear nan h = refl
signed_clear (inf s) h = rw h
signed_clear (fin s m e) h = rw h (ap pos (upper (m * up e / down e)))
  where
    upper : (a : ℕ) → min a 2147483647 ≡ min (min a 4294967295) 2147483647
    upper a = omega arith

signed_set : (v : Float) → Clear v → to_signed 31 (neg v) ≡ neg_ℤ (pos (min (to_unsigned 32 v) (2 ^ 31)))
unfolding to_signed to_unsigned neg
signed_set nan h = refl
signed_set (inf s) h = rw h
signed_set (fin s m e) h = rw h (ap (λ (r : ℕ). neg_ℤ (pos r)) (lower (m * up e / down e)))
  where
    lower : (a : ℕ) → min a 2147483648 ≡ min (min a 4294967295) 2147483648
    lower a = omega arith

module _ (f : Format) (b : ℕ) where
  pub unsigned_lane : cond (leb (top f) b) 0 (trunc_sat_u f (b % top f)) ≡ trunc_sat_u f b
  unsigned_lane = rw (by_sign f b) (go (leb (top f) b))
    where
      go : (s : Bool) → cond s 0 (to_unsigned 32 (of_bits f (b % top f))) ≡ to_unsigned 32 (cond s (neg (of_bits f (b % top f))) (of_bits f (b % top f)))
      go true = sym (unsigned_set (of_bits f (b % top f)) (is_clear f b))
      go false = refl

  pub signed_lane : cond (leb (top f) b) (neg_ℤ (pos (min (trunc_sat_u f (b % top f)) (2 ^ 31)))) (pos (min (trunc_sat_u f (b % top f)) (2 ^ 31 - 1)))
      ≡ to_signed 31 (of_bits f b)
  signed_lane = rw (by_sign f b) (go (leb (top f) b))
    where
      go : (s : Bool) → cond s (neg_ℤ (pos (min (trunc_sat_u f (b % top f)) (2 ^ 31)))) (pos (min (trunc_sat_u f (b % top f)) (2 ^ 31 - 1)))
          ≡ to_signed 31 (cond s (neg (of_bits f (b % top f))) (of_bits f (b % top f)))
      go true = sym (signed_set (of_bits f (b % top f)) (is_clear f b))
      go false = sym (signed_clear (of_bits f (b % top f)) (is_clear f b))

-- ---- a signed lane as the code has it

pub capped_low : (a : ℕ) → cond (ltb a (2 ^ 31)) a (2 ^ 31) ≡ min a (2 ^ 31)
capped_low a = go (ltb a (2 ^ 31)) (ltb→lt a (2 ^ 31)) (nltb→le a (2 ^ 31))
  where
    go : (t : Bool) → (T t → a < 2147483648) → (T (not t) → 2147483648 ≤ a) → cond t a 2147483648 ≡ min a 2147483648
    go true h k = let l = h tt in omega arith
    go false h k = let l = k tt in omega arith

pub capped_high : (a : ℕ) → cond (ltb a (2 ^ 31)) a (2 ^ 31 - 1) ≡ modulo 32 (pos (min a (2 ^ 31 - 1)))
capped_high a = go (ltb a (2 ^ 31)) (ltb→lt a (2 ^ 31)) (nltb→le a (2 ^ 31))
  where
    go : (t : Bool) → (T t → a < 2147483648) → (T (not t) → 2147483648 ≤ a) → cond t a 2147483647 ≡ min a 2147483647 % 4294967296
    go true h k = let l = h tt in omega arith
    go false h k = let l = k tt in omega arith

pub negated_lane : (k : ℕ) → 0 < k → k ≤ 2 ^ 31 → 4294967295 - k + 1 ≡ modulo 32 (neg_ℤ (pos k))
negated_lane zero h l = absurd (lt_irrefl 0 h)
negated_lane (suc k) h l = go k l
  where
    go : (k : ℕ) → suc k ≤ 2147483648 → 4294967295 - suc k + 1 ≡ 4294967296 - suc (k % 4294967296)
    go k l = omega arith

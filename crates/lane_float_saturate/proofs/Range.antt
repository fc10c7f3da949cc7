-- Truncation by the range that a pattern's magnitude lies in: the signed lane over both formats, and what the code of 32 bits chooses. Assumes nothing.
use Rattle.std.proofs.Common.{◌≡◌, ℕ, suc, ◌+◌, ◌-◌, ◌*◌, ◌/◌, ◌%◌, ◌^◌, ◌<◌, ◌≤◌, min, Bool, true, false, cond, ◌||◌, ltb, leb, ◌⊎◌, pos, neg_ℤ, sym, refl, ap, ◌∙◌, ap₂, inl, inr, le_trans, le_of_eq, le_of_suc-le-suc, lt_of_le_of_lt, le_of_lt, mod-eq_of_lt, eq-or-lt_of_le, mul-one, arith, lit≤, pow_mono, shr-shr, ltb-false, ltb-true, le-ltb, lt-ltb, leb-false, leb-true}
use lib.Bits.{bit_xor, xor_zero_r, xor_add_and, and_mask}
use lib.Pow.{shr_mono, shr_le, shl-shr}
use lib.Ieee.{Format, binary32, binary64, emax, hid, ones, top}
use Rattle.standard.specs.Integer.{modulo}
use Rattle.standard.specs.Convert.{trunc_sat_u, trunc_sat_s}
use Rattle.lane_float_pattern.proofs.Fields.{field, digits, digits_are, digits_lt, led}
use Rattle.lane_float_parts.proofs.Upper.{upper, field_is, sign_test}
use Rattle.lane_float_parts.proofs.Upper.{from as from-upper}
use Rattle.lane_float_pattern.proofs.Saturation.{part_of_nan, part_small, part_large, part_middle, unsigned_lane, signed_lane, capped_low, capped_high}
use Rattle.lane_float_pattern.proofs.Saturation.{negated_lane}

-- ---- the signed lane, by the whole part of the magnitude
module _ (f : Format) (b : ℕ) where
  abbrev part : ℕ
  part = trunc_sat_u f (b % top f)

  lane : {r : ℕ} → r ≡ modulo 32 (cond (leb (top f) b) (neg_ℤ (pos (min part (2 ^ 31)))) (pos (min part (2 ^ 31 - 1)))) → r ≡ trunc_sat_s f b
  lane e = e ∙ ap (modulo 32) (signed_lane f b)

  pub nothing : part ≡ 0 → 0 ≡ trunc_sat_s f b
  nothing e = lane (pick (leb (top f) b))
    where
      pick : (s : Bool) → 0 ≡ modulo 32 (cond s (neg_ℤ (pos (min part (2 ^ 31)))) (pos (min part (2 ^ 31 - 1))))
      pick true = ap (λ (p : ℕ). modulo 32 (neg_ℤ (pos (min p (2 ^ 31))))) (sym e)
      pick false = ap (λ (p : ℕ). modulo 32 (pos (min p (2 ^ 31 - 1)))) (sym e)

  pub beyond : 2 ^ 31 ≤ part → cond (leb (top f) b) 2147483648 2147483647 ≡ trunc_sat_s f b
  beyond h = lane (pick (leb (top f) b))
    where
      pick : (s : Bool) → cond s 2147483648 2147483647 ≡ modulo 32 (cond s (neg_ℤ (pos (min part (2 ^ 31)))) (pos (min part (2 ^ 31 - 1))))
      pick true = negated_lane 2147483648 (lit≤ tt) (lit≤ tt)
          ∙ ap (λ (p : ℕ). modulo 32 (neg_ℤ (pos p))) (ap (λ (t : Bool). cond t part 2147483648) (sym (le-ltb part 2147483648 h)) ∙ capped_low part)
      pick false = ap (λ (t : Bool). cond t part 2147483647) (sym (le-ltb part 2147483648 h)) ∙ capped_high part

  pub inside : 0 < part → part < 2 ^ 31 → cond (leb (top f) b) (4294967295 - part + 1) part ≡ trunc_sat_s f b
  inside g h = lane (pick (leb (top f) b))
    where
      low : part ≡ min part 2147483648
      low = ap (λ (t : Bool). cond t part 2147483648) (sym (lt-ltb part 2147483648 h)) ∙ capped_low part

      few : (p : ℕ) → p < 2147483648 → p ≤ 2147483648
      few p k = omega arith

      pick : (s : Bool) → cond s (4294967295 - part + 1) part ≡ modulo 32 (cond s (neg_ℤ (pos (min part (2 ^ 31)))) (pos (min part (2 ^ 31 - 1))))
      pick true = negated_lane part g (few part h) ∙ ap (λ (p : ℕ). modulo 32 (neg_ℤ (pos p))) low
      pick false = ap (λ (t : Bool). cond t part 2147483647) (sym (lt-ltb part 2147483648 h)) ∙ capped_high part

-- ---- how large the part is, by the exponent's field

-- digits at the top of 32 bits, or below them, moved down
some_left : (n k : ℕ) → 2 ^ k ≤ n → 0 < n / 2 ^ k
some_left n k h = le_trans (le_of_eq (sym (shl-shr 1 k) ∙ ap (λ (x : ℕ). x / 2 ^ k) (go (2 ^ k)))) (shr_mono k h)
  where
    go : (p : ℕ) → 1 * p ≡ p
    go p = omega arith

less_left : (n i k : ℕ) → n / 2 ^ (i + k) ≤ n / 2 ^ i
less_left n i k = le_trans (le_of_eq (sym (shr-shr n i k))) (shr_le (n / 2 ^ i) k)

-- the digits where they are whole, and how far they are moved down
middle32 : (b : ℕ) → 127 ≤ field binary32 b → field binary32 b ≤ 158 → digits binary32 b * 256 / 2 ^ (158 - field binary32 b) ≡ part binary32 b
middle32 b g h = part_middle binary32 b 8 (le_trans (lit≤ tt) g) h h

middle64 : (b : ℕ) → 1023 ≤ field binary64 b → field binary64 b ≤ 1054 → digits binary64 b * 1 / 2 ^ (1075 - field binary64 b) ≡ part binary64 b
middle64 b g h = part_middle binary64 b 0 (le_trans (lit≤ tt) g) (le_trans h (lit≤ tt)) h

pub reached : (f : Format) (b : ℕ) → b % top f ≤ ones f * hid f → emax f + 31 ≤ field f b → 2 ^ 31 ≤ part f b
reached f b n h = go (eq-or-lt_of_le h)
  where
    whole : (d : ℕ) → 8388608 ≤ d → 2147483648 ≤ d * 256 / 1
    whole d h = omega arith

    cut : (d : ℕ) → 4503599627370496 ≤ d → 2147483648 ≤ d * 1 / 2097152
    cut d h = omega arith

    at : (f : Format) → emax f + 31 ≡ field f b → 2 ^ 31 ≤ part f b
    at binary32 e =
        le_trans (whole (digits binary32 b) (led binary32 b (le_trans (lit≤ tt) (le_of_eq e))))
        (le_of_eq (ap (λ (x : ℕ). digits binary32 b * 256 / 2 ^ (158 - x)) e ∙ middle32 b (le_trans (lit≤ tt) (le_of_eq e)) (le_of_eq (sym e))))
    at binary64 e =
        le_trans (cut (digits binary64 b) (led binary64 b (le_trans (lit≤ tt) (le_of_eq e))))
        (le_of_eq (ap (λ (x : ℕ). digits binary64 b * 1 / 2 ^ (1075 - x)) e ∙ middle64 b (le_trans (lit≤ tt) (le_of_eq e)) (le_of_eq (sym e))))

    go : (emax f + 31 ≡ field f b) ⊎ (emax f + 31 < field f b) → 2 ^ 31 ≤ part f b
    go (inl e) = at f e
    go (inr k) = le_trans (lit≤ tt) (le_of_eq (part_large f b n k))

pub within : (f : Format) (b : ℕ) → emax f ≤ field f b → field f b < emax f + 31 → (0 < part f b) × (part f b < 2 ^ 31)
within binary32 b g h =
    let d = digits_lt binary32 b in
    let l = led binary32 b (le_trans (lit≤ tt) g) in
    let e = middle32 b g (few (field binary32 b) h) in (
      le_trans (some_left (digits binary32 b * 256) (158 - field binary32 b) (le_trans (pow_mono (count (field binary32 b) g)) (omega (arith, l))))
          (le_of_eq e),
      lt_of_le_of_lt (le_of_eq (sym e ∙ ap (λ (k : ℕ). digits binary32 b * 256 / 2 ^ k) (more (field binary32 b) h)))
          (lt_of_le_of_lt (less_left (digits binary32 b * 256) 1 (157 - field binary32 b)) (omega (arith, d))),
    )
  where
    few : (x : ℕ) → x < 158 → x ≤ 158
    few x h = omega arith

    count : (x : ℕ) → 127 ≤ x → 158 - x ≤ 31
    count x g = omega arith

    more : (x : ℕ) → x < 158 → 158 - x ≡ 1 + (157 - x)
    more x h = omega arith
within binary64 b g h =
    let d = digits_lt binary64 b in
    let l = led binary64 b (le_trans (lit≤ tt) g) in
    let e = middle64 b g (few (field binary64 b) h) in (
      le_trans (some_left (digits binary64 b * 1) (1075 - field binary64 b) (le_trans (pow_mono (count (field binary64 b) g)) (omega (arith, l)))) (le_of_eq e),
      lt_of_le_of_lt (le_of_eq (sym e ∙ ap (λ (k : ℕ). digits binary64 b * 1 / 2 ^ k) (more (field binary64 b) h)))
          (lt_of_le_of_lt (less_left (digits binary64 b * 1) 22 (1053 - field binary64 b)) (omega (arith, d))),
    )
  where
    few : (x : ℕ) → x < 1054 → x ≤ 1054
    few x h = omega arith

    count : (x : ℕ) → 1023 ≤ x → 1075 - x ≤ 52
    count x g = omega arith

    more : (x : ℕ) → x < 1054 → 1075 - x ≡ 22 + (1053 - x)
    more x h = omega arith

-- ---- what the code of 64 bits chooses, by the upper half
module _ (b : ℕ) where
  pub at_end : {e : ℕ} → e ≡ cond (leb 2147483648 (b / 4294967296)) 2147483648 2147483647 → b % 9223372036854775808 ≤ 9218868437227405312
      → 1054 ≤ field binary64 b → e ≡ trunc_sat_s binary64 b
  at_end ee n h = ee ∙ ap (λ (t : Bool). cond t 2147483648 2147483647) (sign_test b) ∙ beyond binary64 b (reached binary64 b n h)

  pub ones_field : {e : ℕ} → e ≡ cond (leb 2147483648 (b / 4294967296)) 2147483648 2147483647 → 2146435072 ≤ upper b
      → cond (ltb 9218868437227405312 (b % 9223372036854775808)) 0 e ≡ trunc_sat_s binary64 b
  ones_field {e} ee h = pick (ltb 9218868437227405312 (b % 9223372036854775808)) refl
    where
      pick : (t : Bool) → ltb 9218868437227405312 (b % 9223372036854775808) ≡ t → cond t 0 e ≡ trunc_sat_s binary64 b
      pick true k = nothing binary64 b (sym (part_of_nan binary64 b (ltb-true _ _ k)))
      pick false k = at_end ee (ltb-false _ _ k) (le_trans (lit≤ tt) (from-upper 2047 b h))

  pub part_is : 1023 ≤ field binary64 b → field binary64 b < 1054 → (b % 4503599627370496 + 4503599627370496) / 2 ^ (1075 - upper b / 1048576) ≡ part binary64 b
  part_is g h =
      ap₂ (λ (n x : ℕ). n / 2 ^ (1075 - x)) (digits_are binary64 b (le_trans (lit≤ tt) g) ∙ sym (mul-one (digits binary64 b))) (field_is b)
      ∙ middle64 b g (le_of_lt h)

  pub with_sign : 1023 ≤ field binary64 b → field binary64 b < 1054 → {p : ℕ} → p ≡ part binary64 b
      → cond (leb 2147483648 (b / 4294967296)) (4294967295 - p + 1) p ≡ trunc_sat_s binary64 b
  with_sign g h e =
      let w = within binary64 b g h in
      ap₂ (λ (t : Bool) (p : ℕ). cond t (4294967295 - p + 1) p) (sign_test b) e ∙ inside binary64 b w.0 w.1

-- ---- what the code of 32 bits chooses
module _ (b : ℕ) (F : b < 4294967296) where
  abbrev size : ℕ
  size = b % 2147483648

  abbrev moved : ℕ
  moved = (b % 8388608 * 256 + 2147483648) / 2 ^ ((542 - b / 8388608) % 32)

  under : (x : ℕ) → size < x * 8388608 → field binary32 b < x
  under x h = omega arith

  from : (x : ℕ) → x * 8388608 ≤ size → x ≤ field binary32 b
  from x h = omega arith

  moved_is : 127 ≤ field binary32 b → field binary32 b ≤ 158 → moved ≡ part binary32 b
  moved_is g h = ap₂ (λ (n k : ℕ). n / 2 ^ k) (shifted b ∙ ap (λ (d : ℕ). d * 256) (digits_are binary32 b (le_trans (lit≤ tt) g))) (count b F g h)
      ∙ middle32 b g h
    where
      shifted : (b : ℕ) → b % 8388608 * 256 + 2147483648 ≡ (b % 8388608 + 8388608) * 256
      shifted b = omega arith

      count : (b : ℕ) → b < 4294967296 → 127 ≤ b % 2147483648 / 8388608 → b % 2147483648 / 8388608 ≤ 158 → (542 - b / 8388608) % 32
          ≡ 158 - b % 2147483648 / 8388608
      count b F g h = omega arith

  pub unsigned : cond (ltb b 1065353216 || ltb 2139095040 b) 0 (cond (leb 1333788672 b) 4294967295 moved) ≡ trunc_sat_u binary32 b
  unsigned = pick (ltb b 1065353216) (ltb 2139095040 b) (leb 1333788672 b) (leb 2147483648 b) refl refl refl refl
    where
      plain : b < 2147483648 → part binary32 b ≡ trunc_sat_u binary32 b
      plain h = ap (trunc_sat_u binary32) (mod-eq_of_lt h)

      clear : leb 2147483648 b ≡ false → size ≡ b
      clear e = mod-eq_of_lt (leb-false _ _ e)

      pick : (p q r s : Bool) → ltb b 1065353216 ≡ p → ltb 2139095040 b ≡ q → leb 1333788672 b ≡ r → leb 2147483648 b ≡ s
          → cond (p || q) 0 (cond r 4294967295 moved) ≡ trunc_sat_u binary32 b
      pick true q r true k l m n = absurd (omega (arith, ltb-true b 1065353216 k, leb-true 2147483648 b n))
      pick false false r true k l m n = absurd (omega (arith, ltb-false 2139095040 b l, leb-true 2147483648 b n))
      pick false true r true k l m n = ap (λ (t : Bool). cond t 0 (part binary32 b)) (sym n) ∙ unsigned_lane binary32 b
      pick true q r false k l m n = part_small binary32 b (under 127 (le_trans (le_of_eq (ap suc (clear n))) (ltb-true _ _ k))) ∙ plain (leb-false _ _ n)
      pick false true r false k l m n = part_of_nan binary32 b (le_trans (ltb-true _ _ l) (le_of_eq (sym (clear n)))) ∙ plain (leb-false _ _ n)
      pick false false true false k l m n =
          part_large binary32 b (le_trans (le_of_eq (clear n)) (ltb-false _ _ l)) (from 159 (le_trans (leb-true _ _ m) (le_of_eq (sym (clear n)))))
          ∙ plain (leb-false _ _ n)
      pick false false false false k l m n =
          moved_is (from 127 (le_trans (ltb-false _ _ k) (le_of_eq (sym (clear n)))))
          (le_of_suc-le-suc (under 159 (le_trans (le_of_eq (ap suc (clear n))) (leb-false _ _ m))))
          ∙ plain (leb-false _ _ n)

  pub signed : {o r : ℕ} → o ≡ cond (leb 2147483648 b) 4294967295 0 → r < 4294967296 → (r + o) % 4294967296 ≡ bit_xor moved o
      → cond (ltb size 1065353216 || ltb 2139095040 size) 0 (cond (leb 1325400064 size) (bit_xor 2147483647 o) r) ≡ trunc_sat_s binary32 b
  signed {o} {r} eo hr er = pick (ltb size 1065353216) (ltb 2139095040 size) (leb 1325400064 size) refl refl refl
    where
      end : (s : Bool) → bit_xor 2147483647 (cond s 4294967295 0) ≡ cond s 2147483648 2147483647
      end true = refl
      end false = refl

      opposite : (p r : ℕ) → 0 < p → p < 2147483648 → r < 4294967296 → (r + 4294967295) % 4294967296 ≡ bit_xor p 4294967295 → r ≡ 4294967295 - p + 1
      opposite p r g h k e = omega (arith, xor_add_and p 4294967295, and_mask p 32)

      same : (p r : ℕ) → r < 4294967296 → (r + 0) % 4294967296 ≡ bit_xor p 0 → r ≡ p
      same p r k e = omega (arith, xor_zero_r p)

      turned : (s : Bool) (p : ℕ) → 0 < p → p < 2147483648 → (r + cond s 4294967295 0) % 4294967296 ≡ bit_xor p (cond s 4294967295 0) → r
          ≡ cond s (4294967295 - p + 1) p
      turned true p g h e = opposite p r g h hr e
      turned false p g h e = same p r hr e

      pick : (p q t : Bool) → ltb size 1065353216 ≡ p → ltb 2139095040 size ≡ q → leb 1325400064 size ≡ t
          → cond (p || q) 0 (cond t (bit_xor 2147483647 o) r) ≡ trunc_sat_s binary32 b
      pick true q t k l m = nothing binary32 b (sym (part_small binary32 b (under 127 (ltb-true _ _ k))))
      pick false true t k l m = nothing binary32 b (sym (part_of_nan binary32 b (ltb-true _ _ l)))
      pick false false true k l m =
          ap (bit_xor 2147483647) eo ∙ end (leb 2147483648 b) ∙ beyond binary32 b (reached binary32 b (ltb-false _ _ l) (from 158 (leb-true _ _ m)))
      pick false false false k l m =
          let g = from 127 (ltb-false _ _ k) in
          let h = under 158 (leb-false _ _ m) in
          let w = within binary32 b g h in
          turned (leb 2147483648 b) (part binary32 b) w.0 w.1
          (ap (λ (x : ℕ). (r + x) % 4294967296) (sym eo) ∙ er ∙ ap₂ bit_xor (moved_is g (le_of_lt h)) eo) ∙ inside binary32 b w.0 w.1

-- A pattern rounded to a whole number, over both formats, by the field x of its exponent: a NaN, from 2 ^ (prec - 1) on, between, and below 1.
-- Assumes nothing.
use mathlib.Core.Path.{◌≡◌, refl, sym, ap, ap₂, ◌∙◌, subst}
use mathlib.Core.Logic.{◌⊎◌, inl, inr}
use mathlib.Core.Bool.{Bool, true, false, not, cond, ◌&&◌}
use Prim.Native.Nat.{ℕ, zero, suc, ◌+◌, ◌-◌, ◌*◌, ◌/◌, ◌%◌, ◌^◌, ◌≤◌, ◌<◌, zero-le}
use native.Mathlib.Nat.{le_refl, le_trans, le_of_eq, le_of_lt, lt_of_lt_of_le, lt_of_le_of_lt, lt_irrefl, zero-lt-suc, le-add_right, lt_of_mul-lt-mul_right}
use native.Mathlib.Nat.{mul-lt-mul_of_pos_right, mul-pos, mod-lt, mul-one, one-mul, zero-mul, mul_comm, mul_assoc, mul_right_comm, mul-le-mul_right, add-mul}
use native.Mathlib.Nat.{add_comm, add_assoc, eq-or-lt_of_le, pow-succ', le-div_iff_mul-le, div-lt_iff_lt-mul, mul-add-div_right, mul-mod_right}
use native.Mathlib.Omega.{arith}
use lib.Dec.{T, ltb, leb, eqb, lt→ltb, ltb→lt, nltb→le, leb→le, nleb→lt}
use lib.Arith.{le→nltb}
use lib.Pow.{pow-add, pow_pos, pow_mono, pow-lt, shl_lt}
use lib.Ieee.{Float, nan, inf, fin, Format, binary32, binary64, prec, emax, low, up, down, round, hid, ones, top, odd, of_fields, of_bits, to_bits, is_nan}
use lib.Ieee.Fits.{two, reach, down_pos}
use lib.Ieee.Bits.{is_false, to_bits-of_bits}
use lib.Ieee.Exact.{HasValue, round_exact}
use lib.Ieee.Positive.{first_pos}
use Rattle.standard.specs.Convert.{upward, integer, from, ffloor, fceil}
use Rattle.lane_float_pattern.specs.Integral.{chosen, rounded, lift, rises}
use Rattle.lane_float_pattern.proofs.Rounding.{to_bits_of, written, twice_hid}
use Rattle.lane_float_pattern.proofs.Fields.{field, lead, digits, magnitude, value, hid_pos, emax_some, two_fields, led_digits, not_a_number, infinite}
use Rattle.lane_float_pattern.proofs.Fields.{field_le, digits_lt, led, pattern_is}
use Rattle.lane_float_pattern.proofs.Chosen.{same_test, lifted, chosen_same, chosen_near, chosen_whole, chosen_below}

-- ---- the pattern of a whole number n that is q * 2 ^ k units
module _ (f : Format) (s : Bool) (n q k : ℕ) (small : q ≤ 2 ^ prec f) (first : 0 < k → hid f ≤ q) (fine : q * 2 ^ k < 2 ^ (low f + suc (emax f)))
    (is : n * 2 ^ low f ≡ q * 2 ^ k) where
  exact : HasValue (round f s n 1) s n 1
  exact = go (eq-or-lt_of_le small)
    where
      more : (h : ℕ) → 0 < h → h < 2 * h
      more h p = omega arith

      go : (q ≡ 2 ^ prec f) ⊎ (q < 2 ^ prec f) → HasValue (round f s n 1) s n 1
      go (inr l) = round_exact f s n 1 q k (zero-lt-suc 0) l fine (is ∙ sym (mul-one (q * 2 ^ k)))
      go (inl e) =
          let r : q * 2 ^ k ≡ hid f * 2 ^ suc k =
          ap (λ (x : ℕ). x * 2 ^ k) (e ∙ twice_hid f ∙ mul_comm 2 (hid f)) ∙ mul_assoc (hid f) 2 (2 ^ k) ∙ ap (λ (x : ℕ). hid f * x) (sym (pow-succ' 2 k)) in
          round_exact f s n 1 (hid f) (suc k) (zero-lt-suc 0) (subst (λ (x : ℕ). hid f < x) (sym (twice_hid f)) (more (hid f) (pow_pos (prec f - 1))))
          (subst (λ (x : ℕ). x < 2 ^ (low f + suc (emax f))) r fine) (is ∙ r ∙ sym (mul-one (hid f * 2 ^ suc k)))

  rescaled : (x : Float) → HasValue x s n 1 → HasValue x s (q * 2 ^ k) (2 ^ low f)
  rescaled nan v = v
  rescaled (inf t) v = v
  rescaled (fin t m e) v = (
    v.0,
    ap (λ (x : ℕ). x * 2 ^ low f) (sym (mul-one (m * up e)) ∙ v.1) ∙ mul_right_comm n (down e) (2 ^ low f)
        ∙ ap (λ (x : ℕ). x * down e) is,
  )

  whole_pattern : to_bits f (round f s n 1) ≡ cond s (top f) 0 + (k * hid f + q)
  whole_pattern =
      to_bits_of f s (round f s n 1) (q * 2 ^ k) (rescaled (round f s n 1) exact)
      ∙ add_assoc (cond s (top f) 0) _ _
      ∙ ap (λ (x : ℕ). cond s (top f) 0 + x) (written f q k small first)

-- ---- a float rounded in one of the three ways
module _ (even away : Bool) (f : Format) where
  rounded_value : (x : Float) (s : Bool) (a c : ℕ) → 0 < c → HasValue x s a c → rounded even away f x ≡ round f s (chosen even away a c) 1
  unfolding from
  rounded_value nan s a c C h = absurd h
  rounded_value (inf t) s a c C h = absurd h
  rounded_value (fin t m e) s a c C h = rw (chosen_same even away (m * up e) (down e) a c (down_pos e) C h.1, h.0)

  pub of_nan : (b : ℕ) → ones f * hid f < b % top f → to_bits f nan ≡ to_bits f (rounded even away f (of_bits f b))
  unfolding from
  of_nan b h = rw (← not_a_number f b h)

module _ (even away : Bool) (f : Format) (b : ℕ) where
  abbrev s : Bool
  s = leb (top f) b

  abbrev x : ℕ
  x = field f b

  abbrev D : ℕ
  D = digits f b

  abbrev result : ℕ
  result = to_bits f (rounded even away f (of_bits f b))

  finite : (a c : ℕ) → 0 < c → magnitude f b * c ≡ a * 2 ^ low f → x < ones f → result ≡ to_bits f (round f s (chosen even away a c) 1)
  finite a c C e h =
      ap (to_bits f) (rounded_value even away f (of_bits f b) s (magnitude f b) (2 ^ low f) (pow_pos (low f)) (value f b h))
      ∙ ap (λ (n : ℕ). to_bits f (round f s n 1)) (chosen_same even away (magnitude f b) (2 ^ low f) a c (pow_pos (low f)) C e)

  -- from 2 ^ (prec - 1) on every float is whole, and an infinity stays
  pub large : b < 2 * top f → b % top f ≤ ones f * hid f → low f < x → b ≡ result
  unfolding from is_nan
  large B i h = sym (go (eq-or-lt_of_le (field_le f b)))
    where
      join : (x w : ℕ) → w < x → x - 1 - w + w ≡ x - 1
      join x w h = omega arith

      some : (x w : ℕ) → w < x → 0 < x
      some x w h = omega arith

      exp : (p e x : ℕ) → 2 ≤ p → 2 < e → x < 2 * e + 1 → p + (x - 1) ≤ e + p - 2 + suc e
      exp p e x a c l = omega arith

      go : (x ≡ ones f) ⊎ (x < ones f) → result ≡ b
      go (inl e) =
          let v : of_bits f b ≡ inf s = infinite f b e i in
          rw v (ap (to_bits f) (sym v) ∙ to_bits-of_bits f b B (rw v tt))
      go (inr l) =
          let n = D * 2 ^ (x - 1 - low f) in
          let e : n * 2 ^ low f ≡ D * 2 ^ (x - 1) = mul_assoc D (2 ^ (x - 1 - low f)) (2 ^ low f)
          ∙ ap (λ (y : ℕ). D * y) (sym (pow-add 2 (x - 1 - low f) (low f)) ∙ ap (λ (y : ℕ). 2 ^ y) (join x (low f) h)) in
          finite n 1 (zero-lt-suc 0) (mul-one (D * 2 ^ (x - 1)) ∙ sym e) l
          ∙ ap (λ (y : ℕ). to_bits f (round f s y 1)) (chosen_whole even away n)
          ∙ whole_pattern f s n D (x - 1) (le_of_lt (digits_lt f b)) (λ g. led f b (some x (low f) h))
          (lt_of_lt_of_le (shl_lt (prec f) (x - 1) (digits_lt f b)) (pow_mono (exp (prec f) (emax f) x (two f) (emax_some f) l))) e
          ∙ pattern_is f b B (some x (low f) h)

  -- ---- between: the last j digits are the fraction's
  module _ (B : b < 2 * top f) (lo : emax f ≤ x) (hi : x ≤ low f) where
    abbrev j : ℕ
    j = suc (low f) - x

    some : 0 < x
    some = go (emax f) x (emax_some f) lo
      where
        go : (e x : ℕ) → 2 < e → e ≤ x → 0 < x
        go e x h l = omega arith

    j_some : 0 < j
    j_some = go x (low f) hi
      where
        go : (x w : ℕ) → x ≤ w → 0 < suc w - x
        go x w h = omega arith

    joined : x - 1 + j ≡ low f
    joined = go x (low f) some hi
      where
        go : (x w : ℕ) → 0 < x → x ≤ w → x - 1 + (suc w - x) ≡ w
        go x w p h = omega arith

    -- the places of the digits above those
    abbrev i : ℕ
    i = prec f - 1 - j

    hid_is : 2 ^ i * 2 ^ j ≡ hid f
    hid_is = sym (pow-add 2 i j) ∙ ap (λ (y : ℕ). 2 ^ y) (go (prec f) (emax f) x (two f) lo)
      where
        go : (p e x : ℕ) → 2 ≤ p → e ≤ x → p - 1 - (suc (e + p - 2) - x) + (suc (e + p - 2) - x) ≡ p - 1
        go p e x a h = omega arith

    abbrev q : ℕ
    q = chosen even away D (2 ^ j) * 2 ^ j

    least : hid f ≤ q
    least =
        subst (λ (y : ℕ). y ≤ q) hid_is
        (mul-le-mul_right (2 ^ j) (le_trans ((le-div_iff_mul-le (pow_pos j)).1 (le_trans (le_of_eq hid_is) (led f b some)))
        (chosen_near even away D (2 ^ j) (pow_pos j)).0))

    most : q ≤ 2 ^ prec f
    most =
        let w : 2 ^ prec f ≡ 2 * 2 ^ i * 2 ^ j = twice_hid f ∙ ap (λ (y : ℕ). 2 * y) (sym hid_is) ∙ sym (mul_assoc 2 (2 ^ i) (2 ^ j)) in
        subst (λ (y : ℕ). q ≤ y) (sym w)
        (mul-le-mul_right (2 ^ j) (le_trans (chosen_near even away D (2 ^ j) (pow_pos j)).1
        ((div-lt_iff_lt-mul (pow_pos j)).1 (subst (λ (y : ℕ). D < y) w (digits_lt f b)))))

    stepped : result ≡ cond s (top f) 0 + ((x - 1) * hid f + q)
    stepped =
        finite D (2 ^ j) (pow_pos j) scale (lt_of_le_of_lt hi (inside (prec f) (emax f) (two f) (reach f)))
        ∙ whole_pattern f s (chosen even away D (2 ^ j)) q (x - 1) most (λ l. least)
        (lt_of_le_of_lt (le_trans (mul-le-mul_right (2 ^ (x - 1)) most) (le_of_eq (sym (pow-add 2 (prec f) (x - 1)))))
        (pow-lt (exp (prec f) (emax f) x (two f) (reach f) hi)))
        (sym (mul_assoc (chosen even away D (2 ^ j)) (2 ^ j) (2 ^ (x - 1))
        ∙ ap (λ (y : ℕ). chosen even away D (2 ^ j) * y) (sym (pow-add 2 j (x - 1)) ∙ ap (λ (y : ℕ). 2 ^ y) (add_comm j (x - 1) ∙ joined))))
      where
        inside : (p e : ℕ) → 2 ≤ p → p ≤ suc e → e + p - 2 < 2 * e + 1
        inside p e a c = omega arith

        exp : (p e x : ℕ) → 2 ≤ p → p ≤ suc e → x ≤ e + p - 2 → p + (x - 1) < e + p - 2 + suc e
        exp p e x a c h = omega arith

        scale : D * 2 ^ (x - 1) * 2 ^ j ≡ D * 2 ^ low f
        scale = mul_assoc D (2 ^ (x - 1)) (2 ^ j) ∙ ap (λ (y : ℕ). D * y) (sym (pow-add 2 (x - 1) j) ∙ ap (λ (y : ℕ). 2 ^ y) joined)

    -- the sign and the field are a multiple of 2 ^ j, and an even one
    abbrev above : ℕ
    above = cond s (suc (ones f)) 0 + (x - 1)

    split : (d : ℕ) → above * 2 ^ i * 2 ^ j + d ≡ cond s (top f) 0 + ((x - 1) * hid f + d)
    split d =
        ap (λ (y : ℕ). y + d) (mul_assoc above (2 ^ i) (2 ^ j) ∙ ap (λ (y : ℕ). above * y) hid_is ∙ add-mul (cond s (suc (ones f)) 0) (x - 1) (hid f))
        ∙ add_assoc (cond s (suc (ones f)) 0 * hid f) ((x - 1) * hid f) d
        ∙ ap (λ (y : ℕ). y + ((x - 1) * hid f + d)) (go s)
      where
        go : (t : Bool) → cond t (suc (ones f)) 0 * hid f ≡ cond t (top f) 0
        go true = mul_comm (suc (ones f)) (hid f)
        go false = zero-mul (hid f)

    above_even : above * 2 ^ i % 2 ≡ 0
    above_even = go i refl
      where
        at_emax : (p e x : ℕ) → 2 ≤ p → e ≤ x → x ≤ e + p - 2 → p - 1 - (suc (e + p - 2) - x) ≡ 0 → x ≡ e
        at_emax p e x a l h z = omega arith

        emax_odd : (f : Format) (t : Bool) → (cond t (suc (ones f)) 0 + (emax f - 1)) % 2 ≡ 0
        emax_odd binary32 true = refl
        emax_odd binary32 false = refl
        emax_odd binary64 true = refl
        emax_odd binary64 false = refl

        go : (k : ℕ) → i ≡ k → above * 2 ^ k % 2 ≡ 0
        go zero e =
            ap (λ (y : ℕ). y % 2) (mul-one above)
            ∙ ap (λ (y : ℕ). (cond s (suc (ones f)) 0 + (y - 1)) % 2) (at_emax (prec f) (emax f) x (two f) lo hi e)
            ∙ emax_odd f s
        go (suc k) e =
            ap (λ (y : ℕ). y % 2) (ap (λ (y : ℕ). above * y) (pow-succ' 2 k) ∙ sym (mul_assoc above 2 (2 ^ k))
            ∙ ap (λ (y : ℕ). y * 2 ^ k) (mul_comm above 2) ∙ mul_assoc 2 above (2 ^ k))
            ∙ mul-mod_right 2 (above * 2 ^ k)

    pub between : (b + lift even away (b / 2 ^ j) (2 ^ j)) / 2 ^ j * 2 ^ j ≡ result
    between =
        let u = above * 2 ^ i in
        let y = lift even away (D / 2 ^ j) (2 ^ j) in
        let e : u * 2 ^ j + D ≡ b = split D ∙ pattern_is f b B some in
        let last : b / 2 ^ j % 2 ≡ D / 2 ^ j % 2 = ap (λ (n : ℕ). n / 2 ^ j % 2) (sym e) ∙ ap (λ (n : ℕ). n % 2) (mul-add-div_right (pow_pos j) u D)
        ∙ skip u (D / 2 ^ j) above_even in
        ap (λ (r : ℕ). (b + cond even (2 ^ j / 2 - 1 + r) (cond away (2 ^ j - 1) 0)) / 2 ^ j * 2 ^ j) last
        ∙ ap (λ (n : ℕ). (n + y) / 2 ^ j * 2 ^ j) (sym e)
        ∙ ap (λ (n : ℕ). n / 2 ^ j * 2 ^ j) (add_assoc (u * 2 ^ j) D y)
        ∙ ap (λ (n : ℕ). n * 2 ^ j) (mul-add-div_right (pow_pos j) u (D + y) ∙ ap (λ (n : ℕ). u + n) (sym (lifted even away D j j_some)))
        ∙ add-mul u (chosen even away D (2 ^ j)) (2 ^ j)
        ∙ split q
        ∙ sym stepped
      where
        skip : (u v : ℕ) → u % 2 ≡ 0 → (u + v) % 2 ≡ v % 2
        skip u v h = omega arith

  -- ---- below 1: a zero or a one, whose pattern is emax * hid

  abbrev m : ℕ
  m = b % top f

  magnitude_lt : x < emax f → magnitude f b < 2 ^ low f
  magnitude_lt h = lt_of_lt_of_le (shl_lt (prec f) (x - 1) (digits_lt f b)) (pow_mono (exp (prec f) (emax f) x (two f) (emax_some f) h))
    where
      exp : (p e x : ℕ) → 2 ≤ p → 2 < e → x < e → p + (x - 1) ≤ e + p - 2
      exp p e x a c h = omega arith

  zero_or_one : (t : Bool) → to_bits f (round f s (cond t 1 0) 1) ≡ cond s (top f) 0 + cond t (emax f * hid f) 0
  zero_or_one true =
      whole_pattern f s 1 (hid f) (emax f - 1) (le_trans (le_of_eq (sym (one-mul (hid f))))
      (le_trans (mul-le-mul_right (hid f) (le_of_lt (next 1))) (le_of_eq (sym (twice_hid f))))) (λ k. le_refl (hid f))
      (subst (λ (y : ℕ). y < 2 ^ (low f + suc (emax f))) (pow-add 2 (prec f - 1) (emax f - 1)) (pow-lt (exp (prec f) (emax f) (two f) (emax_some f))))
      (one-mul (2 ^ low f) ∙ ap (λ (y : ℕ). 2 ^ y) (place (prec f) (emax f) (two f) (emax_some f)) ∙ pow-add 2 (prec f - 1) (emax f - 1))
      ∙ ap (λ (y : ℕ). cond s (top f) 0 + y) (one_is (emax f) (hid f) (emax_some f))
    where
      next : (a : ℕ) → a < suc a
      next a = omega arith

      pred : (e : ℕ) → suc e - 1 ≡ e
      pred e = omega arith

      step : (e h : ℕ) → e * h + h ≡ suc e * h
      step e h = omega arith

      one_is : (e h : ℕ) → 2 < e → (e - 1) * h + h ≡ e * h
      one_is zero h p = absurd (no p)
        where
          no : 2 < 0 → ⊥
          no p = omega arith
      one_is (suc e) h p = ap (λ (y : ℕ). y * h + h) (pred e) ∙ step e h

      place : (p e : ℕ) → 2 ≤ p → 2 < e → e + p - 2 ≡ p - 1 + (e - 1)
      place p e a c = omega arith

      exp : (p e : ℕ) → 2 ≤ p → 2 < e → p - 1 + (e - 1) < e + p - 2 + suc e
      exp p e a c = omega arith
  zero_or_one false =
      whole_pattern f s 0 0 0 zero-le (λ (l : 0 < 0). absurd (lt_irrefl 0 l)) (pow_pos (low f + suc (emax f))) (zero-mul (2 ^ low f))
      ∙ ap (λ (y : ℕ). cond s (top f) 0 + y) (none (hid f))
    where
      none : (h : ℕ) → 0 * h + 0 ≡ 0
      none h = omega arith

  -- twice the magnitude against 1, on the pattern
  above_half : x < emax f → ltb (2 ^ low f) (magnitude f b * 2) ≡ ltb ((emax f - 1) * hid f) m
  above_half h = go (eq-or-lt_of_le h)
    where
      t : ℕ
      t = b % hid f

      exp : (p e x : ℕ) → 2 ≤ p → 2 < e → suc x < e → p + (x - 1) + 1 ≤ e + p - 2
      exp p e x a c l = omega arith

      pred : (e x : ℕ) → suc x < e → suc x ≤ e - 1
      pred e x l = omega arith

      within : (a h t : ℕ) → t < h → a * h + t ≤ suc a * h
      within a h t l = omega arith

      far : suc x < emax f → (magnitude f b * 2 ≤ 2 ^ low f) × (m ≤ (emax f - 1) * hid f)
      far l = (
        le_of_lt (lt_of_lt_of_le (shl_lt (prec f + (x - 1)) 1 (shl_lt (prec f) (x - 1) (digits_lt f b)))
            (pow_mono (exp (prec f) (emax f) x (two f) (emax_some f) l))),
        le_trans (le_of_eq (sym (two_fields f b))) (le_trans (within x (hid f) t (mod-lt b (hid_pos f))) (mul-le-mul_right (hid f) (pred (emax f) x l))),
      )

      some : (e x : ℕ) → 2 < e → suc x ≡ e → (0 < x) × (e - 1 ≡ x)
      some e x c l = (omega arith, omega arith)

      one : (x : ℕ) → 0 < x → x - 1 + 1 ≡ x
      one x p = omega arith

      place : (p e x : ℕ) → 2 ≤ p → 2 < e → suc x ≡ e → e + p - 2 ≡ p - 1 + x
      place p e x a c l = omega arith

      more : (a t : ℕ) → a < a + t → 0 < t
      more a t l = omega arith

      less : (a t : ℕ) → 0 < t → a < a + t
      less a t l = omega arith

      near : suc x ≡ emax f → ltb (2 ^ low f) (magnitude f b * 2) ≡ ltb ((emax f - 1) * hid f) m
      near l =
          let k = some (emax f) x (emax_some f) l in
          let u : magnitude f b * 2 ≡ (hid f + t) * 2 ^ x =
          mul_assoc D (2 ^ (x - 1)) 2 ∙ ap (λ (y : ℕ). D * y) (sym (pow-add 2 (x - 1) 1) ∙ ap (λ (y : ℕ). 2 ^ y) (one x k.0))
          ∙ ap (λ (y : ℕ). y * 2 ^ x) (led_digits f b x k.0) in
          let v : 2 ^ low f ≡ hid f * 2 ^ x = ap (λ (y : ℕ). 2 ^ y) (place (prec f) (emax f) x (two f) (emax_some f) l) ∙ pow-add 2 (prec f - 1) x in
          let w : m ≡ (emax f - 1) * hid f + t = sym (two_fields f b) ∙ ap (λ (y : ℕ). y * hid f + t) (sym k.1) in
          ap₂ ltb v u
          ∙ same_test _ _
          (λ a. lt→ltb ((emax f - 1) * hid f) ((emax f - 1) * hid f + t)
          (less ((emax f - 1) * hid f) t (more (hid f) t (lt_of_mul-lt-mul_right (2 ^ x) (ltb→lt (hid f * 2 ^ x) ((hid f + t) * 2 ^ x) a)))))
          (λ a. lt→ltb (hid f * 2 ^ x) ((hid f + t) * 2 ^ x)
          (mul-lt-mul_of_pos_right (less (hid f) t (more ((emax f - 1) * hid f) t (ltb→lt ((emax f - 1) * hid f) ((emax f - 1) * hid f + t) a)))
          (pow_pos x)))
          ∙ ap (ltb ((emax f - 1) * hid f)) (sym w)

      go : (suc x ≡ emax f) ⊎ (suc x < emax f) → ltb (2 ^ low f) (magnitude f b * 2) ≡ ltb ((emax f - 1) * hid f) m
      go (inl l) = near l
      go (inr l) =
          let k = far l in
          is_false (ltb (2 ^ low f) (magnitude f b * 2)) (le→nltb (2 ^ low f) (magnitude f b * 2) k.0)
          ∙ sym (is_false (ltb ((emax f - 1) * hid f) m) (le→nltb ((emax f - 1) * hid f) m k.1))

  above_zero : ltb 0 (magnitude f b) ≡ ltb 0 m
  above_zero = same_test _ _ (λ a. lt→ltb 0 m (to (field f b) (two_fields f b) (ltb→lt 0 (magnitude f b) a)))
      (λ a. lt→ltb 0 (magnitude f b) (mul-pos (back (field f b) (two_fields f b) (ltb→lt 0 m a)) (pow_pos (field f b - 1))))
    where
      t : ℕ
      t = b % hid f

      none : (h t m : ℕ) → 0 * h + t ≡ m → 0 < 0 + t → 0 < m
      none h t m e l = omega arith

      bare : (h t m : ℕ) → 0 * h + t ≡ m → 0 < m → 0 < 0 + t
      bare h t m e l = omega arith

      full : (x h t m : ℕ) → suc x * h + t ≡ m → 0 < h → 0 < m
      full x h t m e l = omega arith

      to : (x : ℕ) → x * hid f + t ≡ m → 0 < (lead f x + t) * 2 ^ (x - 1) → 0 < m
      to zero e l = none (hid f) t m e (first_pos (0 + t) (2 ^ (0 - 1)) l)
      to (suc x) e l = full x (hid f) t m e (hid_pos f)

      back : (x : ℕ) → x * hid f + t ≡ m → 0 < m → 0 < lead f x + t
      back zero e l = bare (hid f) t m e l
      back (suc x) e l = lt_of_lt_of_le (hid_pos f) (le-add_right (hid f) t)

  rising : x < emax f → chosen even away (magnitude f b) (2 ^ low f) ≡ cond (rises f even away b) 1 0
  rising h =
      chosen_below even away (magnitude f b) (2 ^ low f) (magnitude_lt h)
      ∙ ap (λ (t : Bool). cond (cond even t (away && ltb 0 (magnitude f b))) 1 0) (above_half h)
      ∙ ap (λ (t : Bool). cond (cond even (ltb ((emax f - 1) * hid f) m) (away && t)) 1 0) above_zero

  pub small : x < emax f → cond s (top f) 0 + cond (rises f even away b) (emax f * hid f) 0 ≡ result
  small h =
      sym (finite (magnitude f b) (2 ^ low f) (pow_pos (low f)) refl (lt_of_lt_of_le h (least (emax f)))
      ∙ ap (λ (n : ℕ). to_bits f (round f s n 1)) (rising h)
      ∙ zero_or_one (rises f even away b))
    where
      least : (e : ℕ) → e ≤ 2 * e + 1
      least e = omega arith

-- ---- a direction and a sign

sign_decides : (f : Format) (b : ℕ) (g h : Bool → ℕ → ℕ → Float) → ((n c : ℕ) → g (leb (top f) b) n c ≡ h (leb (top f) b) n c) → from g (of_bits f b)
    ≡ from h (of_bits f b)
unfolding from of_bits of_fields odd
sign_decides f b g h e = go (field f b) (b % hid f)
  where
    digit : (d q k : ℕ) → from g (odd d (leb (top f) b) q k (low f)) ≡ from h (odd d (leb (top f) b) q k (low f))
    digit d zero k = e _ _
    digit d (suc q) k = e _ _

    pick : (u v : Bool) (d q k : ℕ)
        → from g (cond u (cond v (inf (leb (top f) b)) nan) (odd d (leb (top f) b) q k (low f)))
        ≡ from h (cond u (cond v (inf (leb (top f) b)) nan) (odd d (leb (top f) b) q k (low f)))
    pick true true d q k = refl
    pick true false d q k = refl
    pick false v d q k = digit d q k

    go : (x t : ℕ) → from g (of_fields f (leb (top f) b) x t) ≡ from h (of_fields f (leb (top f) b) x t)
    go zero t = digit (prec f) t 0
    go (suc x) t = pick (eqb (suc x) (ones f)) (eqb t 0) (prec f) (hid f + t) x

module _ (f : Format) (b : ℕ) where
  pub downward_is : to_bits f (rounded false (leb (top f) b) f (of_bits f b)) ≡ ffloor f b
  downward_is = ap (to_bits f) (sign_decides f b _ _ (λ n c. refl))

  pub upward_is : to_bits f (rounded false (ltb b (top f)) f (of_bits f b)) ≡ fceil f b
  upward_is =
      ap (to_bits f) (sign_decides f b _ (λ s n c. round f s (integer upward s n c) 1)
      (λ n c. ap (λ (k : ℕ). round f (leb (top f) b) k 1)
      (go (ltb b (top f)) (leb (top f) b) (ltb→lt b (top f)) (nltb→le b (top f)) (leb→le (top f) b) (nleb→lt (top f) b) n c)))
    where
      both : (c : ℕ) → b < c → c ≤ b → ⊥
      both c h k = omega arith

      go : (t s : Bool) → (T t → b < top f) → (T (not t) → top f ≤ b) → (T s → top f ≤ b) → (T (not s) → b < top f) → (n c : ℕ) → chosen false t n c
          ≡ integer upward s n c
      go true true p q r l n c = absurd (both (top f) (p tt) (r tt))
      go true false p q r l n c = refl
      go false true p q r l n c = refl
      go false false p q r l n c = absurd (both (top f) (l tt) (q tt))

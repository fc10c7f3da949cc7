-- A pattern's sign, field and digits, over both formats, and the value that they stand for, in units of the format's smallest. Assumes nothing.
use mathlib.Core.Path.{◌≡◌, refl, sym, ap, ◌∙◌, subst}
use mathlib.Core.Bool.{Bool, true, false, not, cond}
use Prim.Native.Nat.{ℕ, zero, suc, ◌+◌, ◌-◌, ◌*◌, ◌/◌, ◌%◌, ◌^◌, ◌≤◌, ◌<◌, zero-le}
use native.Mathlib.Nat.{le_trans, le_of_eq, le_of_suc-le-suc, lt_irrefl, zero-lt-suc, mod-lt, mod-mod, mod-eq_of_lt, mod-eq-sub-mod, mod-mod_of_dvd}
use native.Mathlib.Nat.{dvd-mul_right, div-add-mod', div-lt_iff_lt-mul, sub-lt_left_of_lt-add, add-sub_of_le, le-add_right, add_comm, mul_comm, mul-pos}
use native.Mathlib.Nat.{zero-add}
use native.Mathlib.Omega.{arith}
use lib.Dec.{T, leb, eqb, lt→ltb, leb→le, nleb→lt, eqb→eq, lit<}
use lib.Arith.{lt→nleb}
use lib.Pow.{pow_pos}
use lib.Ieee.{Float, nan, inf, fin, Format, binary32, binary64, prec, emax, low, odd, neg, hid, ones, top, of_fields, of_bits}
use lib.Ieee.Fits.{eq→eqb}
use lib.Ieee.Bits.{cond_no, is_true, is_false, nan_bits_above}
use lib.Ieee.Exact.{HasValue, odd_sign}
use Rattle.standard.proofs.Nan.{nan_read}
use Rattle.lane_float_pattern.proofs.Rounding.{twice_hid}

abbrev pub field : Format → ℕ → ℕ
field f b = b % top f / hid f

-- the digits, with the leading one where the field is not 0
abbrev pub lead : Format → ℕ → ℕ
lead f zero = 0
lead f (suc x) = hid f

abbrev pub digits : Format → ℕ → ℕ
digits f b = lead f (field f b) + b % hid f

abbrev pub magnitude : Format → ℕ → ℕ
magnitude f b = digits f b * 2 ^ (field f b - 1)

pub hid_pos : (f : Format) → 0 < hid f
hid_pos f = pow_pos (prec f - 1)

pub top_pos : (f : Format) → 0 < top f
top_pos f = mul-pos (hid_pos f) (zero-lt-suc (ones f))

pub emax_some : (f : Format) → 2 < emax f
emax_some binary32 = lit< tt
emax_some binary64 = lit< tt

-- ---- the value

differ : (a b : ℕ) → a < b → T (not (eqb a b))
differ a b h = go (eqb a b) (eqb→eq a b)
  where
    no : a ≡ b → ⊥
    no e = omega arith

    go : (t : Bool) → (T t → a ≡ b) → T (not t)
    go true e = absurd (no (e tt))
    go false e = tt

fields_value : (f : Format) (s : Bool) (x t : ℕ) → x < ones f → HasValue (of_fields f s x t) s ((lead f x + t) * 2 ^ (x - 1)) (2 ^ low f)
unfolding of_fields
fields_value f s zero t h = subst (λ (q : ℕ). HasValue (odd (prec f) s t 0 (low f)) s (q * 2 ^ 0) (2 ^ low f)) (sym (zero-add t))
    (odd_sign (prec f) s t 0 (low f))
fields_value f s (suc x) t h =
    subst (λ (v : Float). HasValue v s ((hid f + t) * 2 ^ (suc x - 1)) (2 ^ low f))
    (sym (cond_no (eqb (suc x) (ones f)) (cond (eqb t 0) (inf s) nan) (odd (prec f) s (hid f + t) x (low f)) (differ (suc x) (ones f) h)))
    (subst (λ (y : ℕ). HasValue (odd (prec f) s (hid f + t) x (low f)) s ((hid f + t) * 2 ^ y) (2 ^ low f)) (one x) (odd_sign (prec f) s (hid f + t) x (low f)))
  where
    one : (x : ℕ) → x ≡ suc x - 1
    one x = omega arith

-- below the highest field
pub value : (f : Format) (b : ℕ) → field f b < ones f → HasValue (of_bits f b) (leb (top f) b) (magnitude f b) (2 ^ low f)
unfolding of_bits
value f b h = fields_value f (leb (top f) b) (field f b) (b % hid f) h

-- a magnitude above the infinity's
pub not_a_number : (f : Format) (b : ℕ) → ones f * hid f < b % top f → nan ≡ of_bits f b
not_a_number f b h = nan_read f b (subst T (sym (nan_bits_above f b)) (lt→ltb (ones f * hid f) (b % top f) h))

pub two_fields : (f : Format) (b : ℕ) → field f b * hid f + b % hid f ≡ b % top f
two_fields f b =
    ap (λ (y : ℕ). field f b * hid f + y) (sym (mod-mod_of_dvd (hid f) b (dvd-mul_right (hid f) (suc (ones f))))) ∙ div-add-mod' (b % top f) (hid f)

-- the highest field, and not above the infinity's magnitude
infinite_fields : (f : Format) (s : Bool) (x t : ℕ) → x ≡ ones f → t ≡ 0 → of_fields f s x t ≡ inf s
unfolding of_fields
infinite_fields f s zero t e z = absurd (no (emax f) e)
  where
    no : (m : ℕ) → 0 ≡ 2 * m + 1 → ⊥
    no m h = omega arith
infinite_fields f s (suc x) t e z = rw (is_true (eqb (suc x) (ones f)) (eq→eqb e), is_true (eqb t 0) (eq→eqb z))

no_digits : (f : Format) (b : ℕ) → field f b ≡ ones f → b % top f ≤ ones f * hid f → b % hid f ≡ 0
no_digits f b e h = go (field f b * hid f) (b % hid f) (ones f * hid f) (two_fields f b) (ap (λ (x : ℕ). x * hid f) e) h
  where
    go : (a t c : ℕ) → a + t ≡ b % top f → a ≡ c → b % top f ≤ c → t ≡ 0
    go a t c p q h = omega arith

pub infinite : (f : Format) (b : ℕ) → field f b ≡ ones f → b % top f ≤ ones f * hid f → of_bits f b ≡ inf (leb (top f) b)
unfolding of_bits
infinite f b e h = infinite_fields f (leb (top f) b) (field f b) (b % hid f) e (no_digits f b e h)

-- a set sign negates what the magnitude stands for
negated : (f : Format) (x t : ℕ) → of_fields f true x t ≡ neg (of_fields f false x t)
unfolding of_fields neg odd
negated f zero zero = refl
negated f zero (suc t) = refl
negated f (suc x) t = go (eqb (suc x) (ones f)) (eqb t 0) (hid f + t)
  where
    go : (u v : Bool) (q : ℕ) → cond u (cond v (inf true) nan) (odd (prec f) true q x (low f))
        ≡ neg (cond u (cond v (inf false) nan) (odd (prec f) false q x (low f)))
    go true true q = refl
    go true false q = refl
    go false v zero = refl
    go false v (suc q) = refl

-- a pattern with its sign taken off
cleared : (f : Format) (b : ℕ) → of_bits f (b % top f) ≡ of_fields f false (field f b) (b % hid f)
unfolding of_bits
cleared f b =
    rw (
      is_false (leb (top f) (b % top f)) (lt→nleb (top f) (b % top f) (mod-lt b (top_pos f))),
      mod-mod b (top f),
      mod-mod_of_dvd (hid f) b
          (dvd-mul_right (hid f) (suc (ones f))),
    )

pub by_sign : (f : Format) (b : ℕ) → of_bits f b ≡ cond (leb (top f) b) (neg (of_bits f (b % top f))) (of_bits f (b % top f))
unfolding of_bits
by_sign f b = rw (cleared f b) (go (leb (top f) b))
  where
    go : (s : Bool) → of_fields f s (field f b) (b % hid f) ≡ cond s (neg (of_fields f false (field f b) (b % hid f))) (of_fields f false (field f b) (b % hid f))
    go true = negated f (field f b) (b % hid f)
    go false = refl

module _ (f : Format) (b : ℕ) where
  pub clear_value : field f b < ones f → HasValue (of_bits f (b % top f)) false (magnitude f b) (2 ^ low f)
  clear_value h = rw (cleared f b) (fields_value f false (field f b) (b % hid f) h)

  pub clear_infinite : field f b ≡ ones f → b % top f ≤ ones f * hid f → of_bits f (b % top f) ≡ inf false
  clear_infinite e h = cleared f b ∙ infinite_fields f false (field f b) (b % hid f) e (no_digits f b e h)

  pub clear_nan : ones f * hid f < b % top f → nan ≡ of_bits f (b % top f)
  clear_nan h = not_a_number f (b % top f) (rw mod-mod h)

-- what is read is not negative
abbrev pub Clear : Float → Type 0
Clear nan = Unit
Clear (inf s) = s ≡ false
Clear (fin s m e) = s ≡ false

pub is_clear : (f : Format) (b : ℕ) → Clear (of_bits f (b % top f))
unfolding of_fields odd
is_clear f b = rw (cleared f b) (go (field f b) (b % hid f))
  where
    digit : (d q k l : ℕ) → Clear (odd d false q k l)
    digit d zero k l = refl
    digit d (suc q) k l = refl

    pick : (u v : Bool) (x : Float) → Clear x → Clear (cond u (cond v (inf false) nan) x)
    pick true true x h = refl
    pick true false x h = tt
    pick false v x h = h

    go : (x t : ℕ) → Clear (of_fields f false x t)
    go zero t = digit (prec f) t 0 (low f)
    go (suc x) t = pick (eqb (suc x) (ones f)) (eqb t 0) (odd (prec f) false (hid f + t) x (low f)) (digit (prec f) (hid f + t) x (low f))

-- ---- the pattern from its parts

pub field_le : (f : Format) (b : ℕ) → field f b ≤ ones f
field_le f b =
    le_of_suc-le-suc ((div-lt_iff_lt-mul (hid_pos f)).1 (subst (λ (a : ℕ). b % top f < a) (mul_comm (hid f) (suc (ones f))) (mod-lt b (top_pos f))))

sign_and_rest : (c n : ℕ) → n < 2 * c → cond (leb c n) c 0 + n % c ≡ n
sign_and_rest c n h = go (leb c n) (leb→le c n) (nleb→lt c n)
  where
    two : n < c + c
    two = omega arith

    go : (t : Bool) → (T t → c ≤ n) → (T (not t) → n < c) → cond t c 0 + n % c ≡ n
    go true l k = ap (λ (r : ℕ). c + r) (mod-eq-sub-mod (l tt) ∙ mod-eq_of_lt (sub-lt_left_of_lt-add (l tt) two)) ∙ add-sub_of_le (l tt)
    go false l k = zero-add (n % c) ∙ mod-eq_of_lt (k tt)

pub led_digits : (f : Format) (b x : ℕ) → 0 < x → lead f x + b % hid f ≡ hid f + b % hid f
led_digits f b zero h = absurd (lt_irrefl 0 h)
led_digits f b (suc x) h = refl

module _ (f : Format) (b : ℕ) where
  pub digits_lt : digits f b < 2 ^ prec f
  digits_lt = subst (λ (y : ℕ). digits f b < y) (sym (twice_hid f)) (sum (lead f (field f b)) (hid f) (b % hid f) (most (field f b)) (mod-lt b (hid_pos f)))
    where
      most : (x : ℕ) → lead f x ≤ hid f
      most zero = zero-le
      most (suc x) = le_of_eq refl

      sum : (l h t : ℕ) → l ≤ h → t < h → l + t < 2 * h
      sum l h t k m = omega arith

  pub led : 0 < field f b → hid f ≤ digits f b
  led p = le_trans (le-add_right (hid f) (b % hid f)) (le_of_eq (sym (led_digits f b (field f b) p)))

  -- as the code adds the leading digit
  pub digits_are : 0 < field f b → b % hid f + hid f ≡ digits f b
  digits_are p = add_comm (b % hid f) (hid f) ∙ sym (led_digits f b (field f b) p)

  pub magnitude_is : 0 < field f b → (field f b - 1) * hid f + digits f b ≡ b % top f
  magnitude_is p = ap (λ (y : ℕ). (field f b - 1) * hid f + y) (led_digits f b (field f b) p) ∙ go (field f b) (hid f) (b % hid f) p ∙ two_fields f b
    where
      one : (k : ℕ) → suc k - 1 ≡ k
      one k = omega arith

      step : (k h t : ℕ) → k * h + (h + t) ≡ suc k * h + t
      step k h t = omega arith

      go : (x h t : ℕ) → 0 < x → (x - 1) * h + (h + t) ≡ x * h + t
      go zero h t p = absurd (lt_irrefl 0 p)
      go (suc k) h t p = ap (λ (y : ℕ). y * h + (h + t)) (one k) ∙ step k h t

  pub pattern_is : b < 2 * top f → 0 < field f b → cond (leb (top f) b) (top f) 0 + ((field f b - 1) * hid f + digits f b) ≡ b
  pattern_is B p = ap (λ (y : ℕ). cond (leb (top f) b) (top f) 0 + y) (magnitude_is p) ∙ sign_and_rest (top f) b B

-- The rounding rule on patterns, over both formats: what `round` keeps is added to the exponent's field, whose weight is `hid`, so that a carry out of the
-- digits is a step of the field, and the sum is never above the infinity's pattern. Assumes nothing.
use mathlib.Core.Path.{◌≡◌, refl, sym, ap, ◌∙◌, subst}
use mathlib.Core.Logic.{◌⊎◌, inl, inr}
use mathlib.Core.Bool.{Bool, true, false, not, cond}
use Prim.Native.Nat.{ℕ, zero, suc, ◌+◌, ◌-◌, ◌*◌, ◌/◌, ◌%◌, ◌^◌, ◌≤◌, ◌<◌, min, compare}
use native.Mathlib.Nat.{le_trans, le_of_eq, le_of_lt, lt_of_lt_of_le, lt_of_le_of_lt, lt_of_not-le, lt_irrefl, le_antisymm, zero-add, zero-lt-suc, mul-one}
use native.Mathlib.Nat.{one-mul, add_assoc, mul-le-mul_right, mul-div_cancel, div-one, div-div-eq-div-mul, le-div_iff_mul-le, le_of_mul-le-mul_right}
use native.Mathlib.Nat.{eq-or-lt_of_le}
use native.Mathlib.Omega.{arith}
use lib.Dec.{T, ltb, ltb→lt, nltb→le, lit<}
use lib.Pow.{pow-add, pow_pos, pow_mono, pow-lt, shl_lt}
use lib.Ieee.{Float, nan, inf, fin, Format, binary32, binary64, prec, emax, low, down, size, odd, units, round, hid, ones, top, to_bits}
use lib.Ieee.Digits.{size-lt, size-le, size_reaches}
use lib.Ieee.Fits.{two, reach, two-le_pos, down_pos, kept-lt, nearest-le, round_is}
use lib.Ieee.Exact.{HasValue, odd_sign}
use lib.Ieee.Nearest.{nearest-ge}
use lib.Ieee.Order.{drop, kept}

-- ---- the pattern of a value that is a whole number of the format's smallest values

pub to_bits_of : (f : Format) (s : Bool) (x : Float) (a : ℕ) → HasValue x s a (2 ^ low f)
    → to_bits f x ≡ cond s (top f) 0 + (size a - prec f) * hid f + a / 2 ^ (size a - prec f)
unfolding to_bits
to_bits_of f s nan a h = absurd h
to_bits_of f s (inf t) a h = absurd h
to_bits_of f s (fin t m e) a h =
    ap (λ (x : ℕ). cond t (top f) 0 + (size x - prec f) * hid f + x / 2 ^ (size x - prec f)) (ap (λ (x : ℕ). x / down e) h.1 ∙ mul-div_cancel a (down_pos e))
    ∙ ap (λ (t : Bool). cond t (top f) 0 + (size a - prec f) * hid f + a / 2 ^ (size a - prec f)) h.0

pub size_exact : (a n : ℕ) → 2 ^ a ≤ n → n < 2 ^ suc a → size n ≡ suc a
size_exact a n lo hi = le_antisymm (size-le n (suc a) hi)
    (lt_of_not-le (λ (g : size n ≤ a). lt_irrefl n (lt_of_lt_of_le (size-lt n) (le_trans (pow_mono g) lo))))

pow_le_back : (i p : ℕ) → 2 ^ i ≤ 2 ^ p → i ≤ p
pow_le_back i p h = go (lt_of_not-le (λ (g : suc p ≤ i). lt_irrefl (2 ^ p) (lt_of_lt_of_le (pow-lt g) h)))
  where
    go : i < suc p → i ≤ p
    go g = omega arith

pow_lt_back : (i p : ℕ) → 2 ^ i < 2 ^ p → i < p
pow_lt_back i p h = lt_of_not-le (λ (g : p ≤ i). lt_irrefl (2 ^ i) (lt_of_lt_of_le h (pow_mono g)))

pub twice_hid : (f : Format) → 2 ^ prec f ≡ 2 * hid f
twice_hid binary32 = refl
twice_hid binary64 = refl

-- the field and the digits of q * 2 ^ k units, where q has its leading digit in its place, or k is 0
module _ (f : Format) (q k : ℕ) (small : q ≤ 2 ^ prec f) (led : 0 < k → hid f ≤ q) where
  abbrev Written : ℕ → Type 0
  Written z = (z - prec f) * hid f + q * 2 ^ k / 2 ^ (z - prec f) ≡ k * hid f + q

  -- no leading digit
  low_field : q < hid f → Written (size (q * 2 ^ k))
  low_field h =
      let z : k ≡ 0 = none k led h in
      let y : size (q * 2 ^ k) - prec f ≡ 0 =
      over (size (q * 2 ^ k)) (prec f) (size-le (q * 2 ^ k) (prec f - 1)
      (subst (λ (j : ℕ). q * 2 ^ j < hid f) (sym z) (subst (λ (x : ℕ). x < hid f) (sym (mul-one q)) h))) in
      ap (λ (j : ℕ). j * hid f + q * 2 ^ k / 2 ^ j) y ∙ ap (λ (j : ℕ). 0 * hid f + j) (div-one (q * 2 ^ k) ∙ ap (λ (j : ℕ). q * 2 ^ j) z ∙ mul-one q)
      ∙ ap (λ (j : ℕ). j * hid f + q) (sym z)
    where
      none : (k : ℕ) → (0 < k → hid f ≤ q) → q < hid f → k ≡ 0
      none zero l h = refl
      none (suc k) l h = absurd (lt_irrefl q (lt_of_lt_of_le h (l (zero-lt-suc k))))

      over : (z p : ℕ) → z ≤ p - 1 → z - p ≡ 0
      over z p h = omega arith

  mid_field : hid f ≤ q → q < 2 ^ prec f → Written (size (q * 2 ^ k))
  mid_field h l =
      let p = prec f in
      let lo : 2 ^ (p - 1 + k) ≤ q * 2 ^ k = subst (λ (x : ℕ). x ≤ q * 2 ^ k) (sym (pow-add 2 (p - 1) k)) (mul-le-mul_right (2 ^ k) h) in
      let hi : q * 2 ^ k < 2 ^ suc (p - 1 + k) = subst (λ (x : ℕ). q * 2 ^ k < 2 ^ x) (one_more p (two f)) (shl_lt p k l) in
      let y : size (q * 2 ^ k) - p ≡ k = ap (λ (x : ℕ). x - p) (size_exact (p - 1 + k) (q * 2 ^ k) lo hi) ∙ less p (two f) in
      ap (λ (j : ℕ). j * hid f + q * 2 ^ k / 2 ^ j) y ∙ ap (λ (j : ℕ). k * hid f + j) (mul-div_cancel q (pow_pos k))
    where
      one_more : (p : ℕ) → 2 ≤ p → p + k ≡ suc (p - 1 + k)
      one_more p h = omega arith

      less : (p : ℕ) → 2 ≤ p → suc (p - 1 + k) - p ≡ k
      less p h = omega arith

  -- a carry out of all the digits
  top_field : q ≡ 2 ^ prec f → Written (size (q * 2 ^ k))
  top_field e =
      let p = prec f in
      let n : q * 2 ^ k ≡ 2 ^ (p + k) = ap (λ (x : ℕ). x * 2 ^ k) e ∙ sym (pow-add 2 p k) in
      let y : size (q * 2 ^ k) - p ≡ suc k =
      ap (λ (x : ℕ). size x - p) n ∙ ap (λ (x : ℕ). x - p) (size_exact (p + k) (2 ^ (p + k)) (le_of_eq refl) (pow-lt (next (p + k)))) ∙ less p in
      let h : q * 2 ^ k ≡ hid f * 2 ^ suc k = n ∙ ap (λ (x : ℕ). 2 ^ x) (split p (two f)) ∙ pow-add 2 (p - 1) (suc k) in
      ap (λ (j : ℕ). j * hid f + q * 2 ^ k / 2 ^ j) y
      ∙ ap (λ (j : ℕ). suc k * hid f + j) (ap (λ (x : ℕ). x / 2 ^ suc k) h ∙ mul-div_cancel (hid f) (pow_pos (suc k)))
      ∙ carry k (hid f) q (e ∙ twice_hid f)
    where
      next : (a : ℕ) → a < suc a
      next a = omega arith

      less : (p : ℕ) → suc (p + k) - p ≡ suc k
      less p = omega arith

      split : (p : ℕ) → 2 ≤ p → p + k ≡ p - 1 + suc k
      split p h = omega arith

      carry : (k h q : ℕ) → q ≡ 2 * h → suc k * h + h ≡ k * h + q
      carry k h q e = omega arith

  pub written : Written (size (q * 2 ^ k))
  written = go (ltb q (hid f)) (ltb→lt q (hid f)) (nltb→le q (hid f)) (eq-or-lt_of_le small)
    where
      go : (b : Bool) → (T b → q < hid f) → (T (not b) → hid f ≤ q) → (q ≡ 2 ^ prec f) ⊎ (q < 2 ^ prec f) → Written (size (q * 2 ^ k))
      go true h l c = low_field (h tt)
      go false h l (inl e) = top_field e
      go false h l (inr g) = mid_field (l tt) g

  -- where it is below 2 ^ (emax + 1), the pattern is at most the infinity's
  under : q * 2 ^ k < 2 ^ (low f + suc (emax f)) → k * hid f + q ≤ ones f * hid f
  under h = go (ltb q (hid f)) (ltb→lt q (hid f)) (nltb→le q (hid f))
    where
      none : (k : ℕ) → (0 < k → hid f ≤ q) → q < hid f → k * hid f + q ≤ hid f
      none zero l g = subst (λ (x : ℕ). x ≤ hid f) (sym (add_zero_l q)) (le_of_lt g)
        where
          add_zero_l : (a : ℕ) → 0 * hid f + a ≡ a
          add_zero_l a = omega arith
      none (suc k) l g = absurd (lt_irrefl q (lt_of_lt_of_le g (l (zero-lt-suc k))))

      one_le : (e : ℕ) → 1 ≤ 2 * e + 1
      one_le e = omega arith

      exp : (p e : ℕ) → 2 ≤ p → p - 1 + k < e + p - 2 + suc e → k + 2 ≤ 2 * e + 1
      exp p e a b = omega arith

      place : (k h q : ℕ) → q ≤ 2 * h → k * h + q ≤ (k + 2) * h
      place k h q l = omega arith

      go : (b : Bool) → (T b → q < hid f) → (T (not b) → hid f ≤ q) → k * hid f + q ≤ ones f * hid f
      go true a b = le_trans (none k led (a tt)) (subst (λ (x : ℕ). x ≤ ones f * hid f) (one-mul (hid f)) (mul-le-mul_right (hid f) (one_le (emax f))))
      go false a b =
          let r : 2 ^ (prec f - 1 + k) < 2 ^ (low f + suc (emax f)) = lt_of_le_of_lt
          (subst (λ (x : ℕ). x ≤ q * 2 ^ k) (sym (pow-add 2 (prec f - 1) k)) (mul-le-mul_right (2 ^ k) (b tt))) h in
          le_trans (place k (hid f) q (le_trans small (le_of_eq (twice_hid f))))
          (mul-le-mul_right (hid f) (exp (prec f) (emax f) (two f) (pow_lt_back (prec f - 1 + k) (low f + suc (emax f)) r)))

  -- and from there on it is at least that
  over : 2 ^ (low f + suc (emax f)) ≤ q * 2 ^ k → ones f * hid f ≤ k * hid f + q
  over h = go (eq-or-lt_of_le (exp (prec f) (emax f) (two f) (reach f)
      (pow_le_back (low f + suc (emax f)) (prec f + k) (le_trans h (le_trans (mul-le-mul_right (2 ^ k) small) (le_of_eq (sym (pow-add 2 (prec f) k))))))))
    where
      exp : (p e : ℕ) → 2 ≤ p → p ≤ suc e → e + p - 2 + suc e ≤ p + k → 2 * e - 1 ≤ k
      exp p e a b c = omega arith

      whole : (p e : ℕ) → 2 ≤ p → p ≤ suc e → 2 * e - 1 ≡ k → e + p - 2 + suc e ≡ p + k
      whole p e a b c = omega arith

      last : (e p : ℕ) → 2 ≤ p → p ≤ suc e → 2 * e - 1 ≡ k → 2 * e + 1 ≡ k + 2
      last e p a b c = omega arith

      past : (e p : ℕ) → 2 ≤ p → p ≤ suc e → 2 * e - 1 < k → 2 * e + 1 ≤ k + 1
      past e p a b c = omega arith

      some : (e : ℕ) → 2 * e - 1 < k → 0 < k
      some e a = omega arith

      two_place : (k h q : ℕ) → 2 * h ≤ q → (k + 2) * h ≤ k * h + q
      two_place k h q l = omega arith

      one_place : (k h q : ℕ) → h ≤ q → (k + 1) * h ≤ k * h + q
      one_place k h q l = omega arith

      go : (2 * emax f - 1 ≡ k) ⊎ (2 * emax f - 1 < k) → ones f * hid f ≤ k * hid f + q
      go (inl e) =
          let g : 2 ^ prec f * 2 ^ k ≤ q * 2 ^ k = le_trans
          (le_of_eq (sym (ap (λ (x : ℕ). 2 ^ x) (whole (prec f) (emax f) (two f) (reach f) e) ∙ pow-add 2 (prec f) k))) h in
          le_trans (le_of_eq (ap (λ (x : ℕ). x * hid f) (last (emax f) (prec f) (two f) (reach f) e)))
          (two_place k (hid f) q (le_trans (le_of_eq (sym (twice_hid f))) (le_of_mul-le-mul_right g (pow_pos k))))
      go (inr l) = le_trans (mul-le-mul_right (hid f) (past (emax f) (prec f) (two f) (reach f) l)) (one_place k (hid f) q (led (some (emax f) l)))

  pub units_bits : (s : Bool) → to_bits f (units f s q k) ≡ cond s (top f) 0 + min (k * hid f + q) (ones f * hid f)
  unfolding units to_bits
  units_bits s = go (ltb (q * 2 ^ k) (2 ^ (low f + suc (emax f)))) (ltb→lt (q * 2 ^ k) (2 ^ (low f + suc (emax f))))
      (nltb→le (q * 2 ^ k) (2 ^ (low f + suc (emax f))))
    where
      least_l : (a b : ℕ) → a ≤ b → a ≡ min a b
      least_l a b h = omega arith

      least_r : (a b : ℕ) → b ≤ a → b ≡ min a b
      least_r a b h = omega arith

      go : (b : Bool) → (T b → q * 2 ^ k < 2 ^ (low f + suc (emax f))) → (T (not b) → 2 ^ (low f + suc (emax f)) ≤ q * 2 ^ k)
          → to_bits f (cond b (odd (suc (prec f)) s q k (low f)) (inf s)) ≡ cond s (top f) 0 + min (k * hid f + q) (ones f * hid f)
      go true h l =
          to_bits_of f s (odd (suc (prec f)) s q k (low f)) (q * 2 ^ k) (odd_sign (suc (prec f)) s q k (low f))
          ∙ add_assoc (cond s (top f) 0) _ _
          ∙ ap (λ (x : ℕ). cond s (top f) 0 + x) (written ∙ least_l (k * hid f + q) (ones f * hid f) (under (h tt)))
      go false h l = ap (λ (x : ℕ). cond s (top f) 0 + x) (least_r (k * hid f + q) (ones f * hid f) (over (l tt)))

-- ---- what `round` keeps, of a fraction n / den in those units

kept_le : (p n den : ℕ) → kept p n den ≤ 2 ^ p
kept_le p n den =
    let k = drop p n den in
    let u = den * 2 ^ k in
    le_trans (nearest-le (n / u) (compare (n % u * 2) u)) (subst (λ (x : ℕ). x < 2 ^ p) (div-div-eq-div-mul n den (2 ^ k)) (kept-lt p (n / den)))

kept_ge : (p n den : ℕ) → 0 < p → 0 < drop p n den → 2 ^ (p - 1) ≤ kept p n den
kept_ge p n den P K =
    let k = drop p n den in
    let u = den * 2 ^ k in
    let w = n / den in
    let a : 2 ^ (p - 1) * 2 ^ k ≤ w = le_trans (le_of_eq (sym (pow-add 2 (p - 1) k))) (size_reaches w (p - 1 + k) (all_in_use (size w) p P K)) in
    le_trans (subst (λ (x : ℕ). 2 ^ (p - 1) ≤ x) (div-div-eq-div-mul n den (2 ^ k)) ((le-div_iff_mul-le (pow_pos k)).1 a))
    (nearest-ge (n / u) (compare (n % u * 2) u))
  where
    all_in_use : (z p : ℕ) → 0 < p → 0 < z - p → p - 1 + (z - p) < z
    all_in_use z p P h = omega arith

pub round_bits : (f : Format) (s : Bool) (num den : ℕ)
    → to_bits f (round f s num den) ≡ cond s (top f) 0 + min (drop (prec f) (num * 2 ^ low f) den * hid f + kept (prec f) (num * 2 ^ low f) den) (ones f * hid f)
round_bits f s num den =
    let n = num * 2 ^ low f in
    ap (to_bits f) (round_is f s num den)
    ∙ units_bits f (kept (prec f) n den) (drop (prec f) n den) (kept_le (prec f) n den) (kept_ge (prec f) n den (two-le_pos (prec f) (two f))) s

-- the sign is apart, and a magnitude is at most the infinity's
pub signed_round : (f : Format) (s : Bool) (num den : ℕ) → cond s (top f) 0 + to_bits f (round f false num den) ≡ to_bits f (round f s num den)
signed_round f s num den = ap (λ (x : ℕ). cond s (top f) 0 + x) (round_bits f false num den ∙ zero-add _) ∙ sym (round_bits f s num den)

pub magnitude_le : (f : Format) (num den : ℕ) → to_bits f (round f false num den) ≤ ones f * hid f
magnitude_le f num den = le_trans (le_of_eq (round_bits f false num den)) (go _ (ones f * hid f))
  where
    go : (a b : ℕ) → 0 + min a b ≤ b
    go a b = omega arith

pub sign_fits : (f : Format) (s : Bool) (a : ℕ) → a ≤ ones f * hid f → cond s (top f) 0 + a < 2 * top f
sign_fits f s a h = go s (top f) (lt_of_le_of_lt h (below f))
  where
    below : (f : Format) → ones f * hid f < top f
    below binary32 = lit< tt
    below binary64 = lit< tt

    go : (s : Bool) (c : ℕ) → a < c → cond s c 0 + a < 2 * c
    go true c h = omega arith
    go false c h = omega arith

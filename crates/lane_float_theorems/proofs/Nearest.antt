-- What `round` gives is nearest, a tie to the even one, over both formats (document 02, order 14), as the standard says it (4.3.3, "Rounding"): the
-- candidates are the numbers that the format holds, which are those that its patterns stand for, and the limit 2^(emax + 1), which counts as even and stands
-- for infinity. Magnitudes are whole numbers, in units of the format's smallest value 2^-low.
--     nearest    ± num / den rounded is finite, no candidate is nearer to num / den, and where another is as near its pattern is even; or it is infinite, and
--                no candidate is nearer than the limit
-- Assumes nothing.
use mathlib.Core.Path.{◌≡◌, refl, sym, ap, ◌∙◌, subst}
use mathlib.Core.Bool.{Bool, true, false, cond, ◌&&◌}
use mathlib.Core.Logic.{◌⊎◌, inl, inr}
use Prim.Native.Nat.{ℕ, zero, suc, ◌+◌, ◌-◌, ◌*◌, ◌/◌, ◌%◌, ◌^◌, ◌≤◌, ◌<◌, compare}
use native.Mathlib.Nat.{mul_comm, mul_assoc, mul_right_comm, mul-one, one-mul, zero-mul, mul-pos, mul-le-mul_right, mul-lt-mul_of_pos_right, mul-div_cancel}
use native.Mathlib.Nat.{div-div-eq-div-mul, eq_of_mul-eq-mul_right, lt_of_mul-lt-mul_right, le_trans, le_of_eq, lt_of_le_of_lt, lt_of_lt_of_le, zero-lt-suc}
use native.Mathlib.Omega.{arith}
use borrow.Author.Tests.{leb-true, leb-false, ltb-true, ltb-false}
use lib.IntN.{ℤ, pos, negsuc}
use lib.Dec.{T, leb, ltb, eqb, ltb→lt, leb→le, lit<, lit≤}
use lib.Pow.{pow-add, pow_pos, pow_mono, pow-lt}
use lib.Ieee.{Float, nan, inf, fin, Format, binary32, binary64, prec, emax, low, hid, ones, top, up, down, size, units, round, fits, of_bits, to_bits}
use lib.Ieee.Digits.{size_reaches, size-le}
use lib.Ieee.Fits.{two, two-le_pos, and_l, and_r, down_pos, nearest-le, kept-lt, round_is}
use lib.Ieee.Bits.{of_bits-fits}
use lib.Ieee.Exact.{HasValue, units_val}
use lib.Ieee.Order.{drop, kept}
use lib.Ieee.Scale.{grid, overflow}
use Rattle.lane_float_theorems.proofs.Whole.{apart, Digits, rounded, Near, kept_near}

-- The magnitude w of a finite number that a pattern of the format stands for, or the limit.
pub data Candidate (f : Format) : ℕ → Type 0 where
  value : (pattern : ℕ) (t : Bool) {w : ℕ} → HasValue (of_bits f pattern) t w (2 ^ low f) → Candidate f w
  limit : Candidate f (overflow f)

-- How far a magnitude is from num / den, in units of 2^-low / den.
abbrev pub off : Format → ℕ → ℕ → ℕ → ℕ
off f num den w = apart (w * den) (num * 2 ^ low f)

pub record Finite (f : Format) (s : Bool) (num den : ℕ) (x : Float) : Type 0 where
  pub v : ℕ
  pub is : HasValue x s v (2 ^ low f)
  pub near : (w : ℕ) → Candidate f w → off f num den v ≤ off f num den w
  pub even : (w : ℕ) → Candidate f w → (w ≡ v → ⊥) → off f num den v ≡ off f num den w → to_bits f x % 2 ≡ 0

pub record Infinite (f : Format) (s : Bool) (num den : ℕ) (x : Float) : Type 0 where
  pub is : x ≡ inf s
  pub near : (w : ℕ) → Candidate f w → off f num den (overflow f) ≤ off f num den w

-- ---- a candidate has at most prec digits, and is not above the limit

module _ (f : Format) (s : Bool) (m : ℕ) (e : ℤ) (t : T (fits f (fin s (suc m) e))) where
  first : T (eqb (suc m % 2) 1 && ltb (suc m) (2 ^ prec f) && leb (down e) (2 ^ low f))
  unfolding fits
  first = and_l (eqb (suc m % 2) 1 && ltb (suc m) (2 ^ prec f) && leb (down e) (2 ^ low f)) (ltb (suc m * up e) (2 ^ suc (emax f) * down e)) t

  few : suc m < 2 ^ prec f
  few =
      ltb→lt (suc m) (2 ^ prec f)
      (and_r (eqb (suc m % 2) 1) (ltb (suc m) (2 ^ prec f)) (and_l (eqb (suc m % 2) 1 && ltb (suc m) (2 ^ prec f)) (leb (down e) (2 ^ low f)) first))

  pub fine : down e ≤ 2 ^ low f
  fine = leb→le (down e) (2 ^ low f) (and_r (eqb (suc m % 2) 1 && ltb (suc m) (2 ^ prec f)) (leb (down e) (2 ^ low f)) first)

  short : suc m * up e < 2 ^ suc (emax f) * down e
  unfolding fits
  short =
      ltb→lt (suc m * up e) (2 ^ suc (emax f) * down e)
      (and_r (eqb (suc m % 2) 1 && ltb (suc m) (2 ^ prec f) && leb (down e) (2 ^ low f)) (ltb (suc m * up e) (2 ^ suc (emax f) * down e)) t)

-- m 2^e as so many units
in_units : (l m : ℕ) (e : ℤ) (w : ℕ) → down e ≤ 2 ^ l → m * up e * 2 ^ l ≡ w * down e → (j : ℕ) × (w ≡ m * 2 ^ j)
in_units l m (pos k) w h g = (k + l, sym (mul-one w) ∙ sym g ∙ mul_assoc m (2 ^ k) (2 ^ l) ∙ ap (λ (x : ℕ). m * x) (sym (pow-add 2 k l)))
in_units l m (negsuc k) w h g =
    let reaches : suc k ≤ l = by (leb (suc k) l) refl in
    let power : 2 ^ l ≡ 2 ^ (l - suc k) * 2 ^ suc k = ap (λ (x : ℕ). 2 ^ x) (let z : l ≡ l - suc k + suc k = omega arith in z)
    ∙ pow-add 2 (l - suc k) (suc k) in (
      l - suc k,
      eq_of_mul-eq-mul_right (2 ^ suc k) (pow_pos (suc k)) w (m * 2 ^ (l - suc k))
          (sym g ∙ ap (λ (x : ℕ). x * 2 ^ l) (mul-one m) ∙ ap (λ (x : ℕ). m * x) power ∙ sym (mul_assoc m (2 ^ (l - suc k)) (2 ^ suc k))),
    )
  where
    beyond : l < suc k → ⊥
    beyond h' = let p = pow-lt h' in omega arith

    by : (b : Bool) → leb (suc k) l ≡ b → suc k ≤ l
    by true e = leb-true (suc k) l e
    by false e = absurd (beyond (leb-false (suc k) l e))

zero_value : (f : Format) (e : ℤ) (w : ℕ) → 0 * up e * 2 ^ low f ≡ w * down e → w ≡ 0
zero_value f e zero h = refl
zero_value f e (suc w) h = absurd (let p = mul-pos (zero-lt-suc w) (down_pos e) in omega
    (arith, h, zero-mul (up e), zero-mul (2 ^ low f), ap (λ (x : ℕ). x * 2 ^ low f) (zero-mul (up e))))

record Bounded (f : Format) (w : ℕ) : Type 0 where
  digits : Digits (prec f) w
  most : w ≤ overflow f

one_digit : (f : Format) → 1 < 2 ^ prec f
one_digit binary32 = lit< tt
one_digit binary64 = lit< tt

of_float : (f : Format) (y : Float) → T (fits f y) → (t : Bool) (w : ℕ) → HasValue y t w (2 ^ low f) → Bounded f w
of_float f nan q t w h = absurd h
of_float f (inf s) q t w h = absurd h
of_float f (fin s zero e) q t w h =
    let z = zero_value f e w h.1 in
    record { digits = record { q = 0; j = 0; few = pow_pos (prec f); is = z }; most = omega (arith, z) }
of_float f (fin s (suc m) e) q t w h =
    let u = in_units (low f) (suc m) e w (fine f s m e q) h.1 in
    record { digits = record { q = suc m; j = u.0; few = few f s m e q; is = u.1 }; most = at_most (lt_of_mul-lt-mul_right (down e) below) }
  where
    at_most : {a b : ℕ} → a < b → a ≤ b
    at_most l = omega arith

    below : w * down e < overflow f * down e
    below =
        subst (λ (x : ℕ). x < overflow f * down e) h.1
        (subst (λ (x : ℕ). suc m * up e * 2 ^ low f < x)
        (mul_right_comm (2 ^ suc (emax f)) (down e) (2 ^ low f)
        ∙ ap (λ (x : ℕ). x * down e) (mul_comm (2 ^ suc (emax f)) (2 ^ low f) ∙ sym (pow-add 2 (low f) (suc (emax f)))))
        (mul-lt-mul_of_pos_right (short f s m e q) (pow_pos (low f))))

bounded : (f : Format) {w : ℕ} → Candidate f w → Bounded f w
bounded f (value pattern t {w} h) = of_float f (of_bits f pattern) (of_bits-fits f pattern) t w h
bounded f limit =
    record { digits = record { q = 1; j = low f + suc (emax f); few = one_digit f; is = sym (one-mul (overflow f)) }; most = omega arith }

-- ---- a pattern, by its magnitude, and that it is even where the digits kept are

pub pattern_of : (f : Format) (s : Bool) (v : ℕ) (x : Float) → HasValue x s v (2 ^ low f)
    → to_bits f x ≡ cond s (top f) 0 + (size v - prec f) * hid f + v / 2 ^ (size v - prec f)
unfolding to_bits
pattern_of f s v nan h = absurd h
pattern_of f s v (inf t) h = absurd h
pattern_of f s v (fin t m e) h =
    let n : m * up e * 2 ^ low f / down e ≡ v = ap (λ (x : ℕ). x / down e) h.1 ∙ mul-div_cancel v (down_pos e) in
    rw (n, h.0)

even_product : (q y : ℕ) → q % 2 ≡ 0 → q * y % 2 ≡ 0
even_product q y h =
    let e : q ≡ 2 * (q / 2) = omega arith in
    let p : q * y ≡ 2 * (q / 2 * y) = ap (λ (x : ℕ). x * y) e ∙ mul_assoc 2 (q / 2) y in
    omega (arith, p)

module _ (p q k : ℕ) (P : 2 ≤ p) (most : q ≤ 2 ^ p) (h : q % 2 ≡ 0) where
  within : size (q * 2 ^ k) - p ≤ k → q * 2 ^ k / 2 ^ (size (q * 2 ^ k) - p) % 2 ≡ 0
  within l =
      let z = size (q * 2 ^ k) - p in
      let split : q * 2 ^ k ≡ q * 2 ^ (k - z) * 2 ^ z =
      ap (λ (x : ℕ). q * x) (ap (λ (x : ℕ). 2 ^ x) (let g : k ≡ k - z + z = omega arith in g) ∙ pow-add 2 (k - z) z)
      ∙ sym (mul_assoc q (2 ^ (k - z)) (2 ^ z)) in
      ap (λ (x : ℕ). x % 2) (ap (λ (x : ℕ). x / 2 ^ z) split ∙ mul-div_cancel (q * 2 ^ (k - z)) (pow_pos z)) ∙ even_product q (2 ^ (k - z)) h

  -- one digit more than p: the next power of two
  beyond : k < size (q * 2 ^ k) - p → q * 2 ^ k / 2 ^ (size (q * 2 ^ k) - p) % 2 ≡ 0
  beyond l =
      let v = q * 2 ^ k in
      let up_to : v ≤ 2 ^ (p + k) = le_trans (mul-le-mul_right (2 ^ k) most) (le_of_eq (sym (pow-add 2 p k))) in
      let from : 2 ^ (p + k) ≤ v = size_reaches v (p + k) (omega arith) in
      let few : size v ≤ suc (p + k) = size-le v (suc (p + k)) (lt_of_le_of_lt up_to (pow-lt (let g : p + k < suc (p + k) = omega arith in g))) in
      let places : size v - p ≡ suc k = omega arith in
      let power : v ≡ 2 ^ (1 + (p - 2)) * 2 ^ suc k =
      (let g : v ≡ 2 ^ (p + k) = omega arith in g) ∙ ap (λ (x : ℕ). 2 ^ x) (let g : p + k ≡ 1 + (p - 2) + suc k = omega arith in g)
      ∙ pow-add 2 (1 + (p - 2)) (suc k) in
      ap (λ (x : ℕ). v / 2 ^ x % 2) places
      ∙ ap (λ (x : ℕ). x % 2) (ap (λ (x : ℕ). x / 2 ^ suc k) power ∙ mul-div_cancel (2 ^ (1 + (p - 2))) (pow_pos (suc k)))
      ∙ ap (λ (x : ℕ). x % 2) (pow-add 2 1 (p - 2)) ∙ even_product 2 (2 ^ (p - 2)) refl

  even_digits : q * 2 ^ k / 2 ^ (size (q * 2 ^ k) - p) % 2 ≡ 0
  even_digits = by (leb (size (q * 2 ^ k) - p) k) refl
    where
      by : (b : Bool) → leb (size (q * 2 ^ k) - p) k ≡ b → q * 2 ^ k / 2 ^ (size (q * 2 ^ k) - p) % 2 ≡ 0
      by true e = within (leb-true (size (q * 2 ^ k) - p) k e)
      by false e = beyond (leb-false (size (q * 2 ^ k) - p) k e)

even_pattern : (f : Format) (s : Bool) (k d : ℕ) → d % 2 ≡ 0 → (cond s (top f) 0 + k * hid f + d) % 2 ≡ 0
even_pattern binary32 true k d h = omega arith
even_pattern binary32 false k d h = omega arith
even_pattern binary64 true k d h = omega arith
even_pattern binary64 false k d h = omega arith

kept_le : (p n den : ℕ) → kept p n den ≤ 2 ^ p
kept_le p n den =
    let u = den * 2 ^ drop p n den in
    le_trans (nearest-le (n / u) (compare (n % u * 2) u)) (subst (λ (x : ℕ). x < 2 ^ p) (div-div-eq-div-mul n den (2 ^ drop p n den)) (kept-lt p (n / den)))

-- ---- the theorem

past : (x l w n : ℕ) → l ≤ x → w ≤ l → apart x n ≤ apart w n → apart l n ≤ apart w n
past x l w n h k near = omega arith

module _ (f : Format) (s : Bool) (num den : ℕ) (D : 0 < den) where
  candidate : (w : ℕ) → Candidate f w → Near (prec f) (num * 2 ^ low f) den w
  candidate w c = kept_near (prec f) (num * 2 ^ low f) den (two-le_pos (prec f) (two f)) D w (bounded f c).digits

  finite : grid f num den < overflow f → Finite f s num den (round f s num den)
  finite h =
      let q = kept (prec f) (num * 2 ^ low f) den in
      let k = drop (prec f) (num * 2 ^ low f) den in
      let is : HasValue (round f s num den) s (q * 2 ^ k) (2 ^ low f) = subst (λ (x : Float). HasValue x s (q * 2 ^ k) (2 ^ low f))
      (sym (round_is f s num den)) (units_val f s q k h) in
      record {
        v = q * 2 ^ k;
        is = is;
        near = λ w c. (candidate w c).near;
        even = λ w c ne same.
            ap (λ (x : ℕ). x % 2) (pattern_of f s (q * 2 ^ k) (round f s num den) is)
            ∙ even_pattern f s (size (q * 2 ^ k) - prec f) (q * 2 ^ k / 2 ^ (size (q * 2 ^ k) - prec f))
            (even_digits (prec f) q k (two f) (kept_le (prec f) (num * 2 ^ low f) den) ((candidate w c).tie ne same));
      }

  infinite : overflow f ≤ grid f num den → round f s num den ≡ inf s → Infinite f s num den (round f s num den)
  infinite h e =
      record {
        is = e;
        near = λ w c. past (grid f num den * den) (overflow f * den) (w * den) (num * 2 ^ low f) (mul-le-mul_right den h)
            (mul-le-mul_right den (bounded f c).most) (candidate w c).near;
      }

  pub nearest : Finite f s num den (round f s num den) ⊎ Infinite f s num den (round f s num den)
  unfolding units
  nearest = by (ltb (grid f num den) (overflow f)) refl
    where
      by : (b : Bool) → ltb (grid f num den) (overflow f) ≡ b → Finite f s num den (round f s num den) ⊎ Infinite f s num den (round f s num den)
      by true e = inl (finite (ltb-true (grid f num den) (overflow f) e))
      by false e = inr (infinite (ltb-false (grid f num den) (overflow f) e) (round_is f s num den ∙ rw e))

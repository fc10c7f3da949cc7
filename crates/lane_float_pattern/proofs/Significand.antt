-- The rounding rule at D * 2 ^ k / 2 ^ l, a significand D of at most w digits with an exponent, over both formats. Assumes nothing.
use mathlib.Core.Path.{◌≡◌, sym, ap, ◌∙◌, subst}
use mathlib.Core.Bool.{Bool, cond}
use Prim.Native.Nat.{ℕ, suc, ◌+◌, ◌-◌, ◌*◌, ◌/◌, ◌%◌, ◌^◌, ◌≤◌, ◌<◌, min, compare}
use native.Mathlib.Nat.{le_trans, le_of_eq, lt_of_lt_of_le, mul_assoc, mul-pos, mul-le-mul_right, le-div_iff_mul-le, div-lt_iff_lt-mul, add_comm, add-zero}
use native.Mathlib.Omega.{arith}
use lib.Pow.{pow-add, pow_pos, pow_mono, shl_lt}
use lib.Ieee.{Float, nan, inf, fin, Format, prec, low, up, down, size, round, hid, ones, top, to_bits}
use lib.Ieee.Digits.{size-le}
use lib.Ieee.Fits.{two, down_pos, nearest-le}
use lib.Ieee.Exact.{HasValue}
use lib.Ieee.Scale.{round_same}
use lib.Ieee.Nearest.{closest, closest_same}
use lib.Ieee.Order.{drop}
use Rattle.standard.specs.Convert.{from}
use Rattle.lane_float_pattern.proofs.Rounding.{size_exact, round_bits}

-- a value in the other format
pub from_value : (f : Format) (x : Float) (s : Bool) (a c : ℕ) → 0 < c → HasValue x s a c → from (round f) x ≡ round f s a c
unfolding from
from_value f nan s a c C h = absurd h
from_value f (inf t) s a c C h = absurd h
from_value f (fin t m e) s a c C h = round_same f t (m * up e) (down e) a c (down_pos e) C h.1 ∙ ap (λ (u : Bool). round f u a c) h.0

pub closest_le : (n i c : ℕ) → n / 2 ^ i < c → closest n (2 ^ i) ≤ c
closest_le n i c h = le_trans (nearest-le (n / 2 ^ i) (compare (n % 2 ^ i * 2) (2 ^ i))) h

module _ (f : Format) (w l D k : ℕ) (small : D < 2 ^ w) where
  abbrev p : ℕ
  p = prec f

  abbrev m : ℕ
  m = k + low f

  -- in units of the format's smallest value, times 2 ^ l
  abbrev n : ℕ
  n = D * 2 ^ k * 2 ^ low f

  n_is : n ≡ D * 2 ^ m
  n_is = mul_assoc D (2 ^ k) (2 ^ low f) ∙ ap (λ (x : ℕ). D * x) (sym (pow-add 2 k (low f)))

  n_lt : n < 2 ^ (w + m)
  n_lt = subst (λ (x : ℕ). x < 2 ^ (w + m)) (sym n_is) (shl_lt w m small)

  same : (i j : ℕ) → m + i ≡ l + j → closest n (2 ^ l * 2 ^ j) ≡ closest D (2 ^ i)
  same i j e =
      closest_same n (2 ^ l * 2 ^ j) D (2 ^ i) (mul-pos (pow_pos l) (pow_pos j)) (pow_pos i)
      (ap (λ (x : ℕ). x * 2 ^ i) n_is
      ∙ mul_assoc D (2 ^ m) (2 ^ i)
      ∙ ap (λ (x : ℕ). D * x) (sym (pow-add 2 m i) ∙ ap (λ (x : ℕ). 2 ^ x) e ∙ pow-add 2 l j))

  -- d digits are dropped
  written : (s : Bool) (i d : ℕ) → drop p n (2 ^ l) ≡ d → m + i ≡ l + d
      → to_bits f (round f s (D * 2 ^ k) (2 ^ l)) ≡ cond s (top f) 0 + min (d * hid f + closest D (2 ^ i)) (ones f * hid f)
  written s i d e g =
      round_bits f s (D * 2 ^ k) (2 ^ l)
      ∙ ap (λ (x : ℕ). cond s (top f) 0 + min (x * hid f + closest n (2 ^ l * 2 ^ x)) (ones f * hid f)) e
      ∙ ap (λ (x : ℕ). cond s (top f) 0 + min (d * hid f + x) (ones f * hid f)) (same i d g)

  -- a result that has all its digits
  pub normal : (s : Bool) → 2 ^ (w - 1) ≤ D → p ≤ w → l < w + m → (d : ℕ) → d + (l + p) ≡ w + m
      → to_bits f (round f s (D * 2 ^ k) (2 ^ l)) ≡ cond s (top f) 0 + min (d * hid f + closest D (2 ^ (w - p))) (ones f * hid f)
  normal s lead le room d e = written s (w - p) d dropped (sum w p l m d le e)
    where
      sum : (w p l m d : ℕ) → p ≤ w → d + (l + p) ≡ w + m → m + (w - p) ≡ l + d
      sum w p l m d a b = omega arith

      a : ℕ
      a = w + m - l - 1

      a_is : a + l ≡ w - 1 + m
      a_is = go w m l room (le_trans (two f) le)
        where
          go : (w m l : ℕ) → l < w + m → 2 ≤ w → w + m - l - 1 + l ≡ w - 1 + m
          go w m l h q = omega arith

      lo : 2 ^ a ≤ n / 2 ^ l
      lo =
          (le-div_iff_mul-le (pow_pos l)).1
          (le_trans (le_of_eq (sym (pow-add 2 a l) ∙ ap (λ (x : ℕ). 2 ^ x) a_is ∙ pow-add 2 (w - 1) m))
          (le_trans (mul-le-mul_right (2 ^ m) lead) (le_of_eq (sym n_is))))

      hi : n / 2 ^ l < 2 ^ suc a
      hi = (div-lt_iff_lt-mul (pow_pos l)).1 (subst (λ (x : ℕ). n < x) (ap (λ (x : ℕ). 2 ^ x) (sym (go w m l room)) ∙ pow-add 2 (suc a) l) n_lt)
        where
          go : (w m l : ℕ) → l < w + m → suc (w + m - l - 1) + l ≡ w + m
          go w m l h = omega arith

      dropped : drop p n (2 ^ l) ≡ d
      dropped = ap (λ (x : ℕ). x - p) (size_exact a (n / 2 ^ l) lo hi) ∙ go w p m l d e room
        where
          go : (w p m l d : ℕ) → d + (l + p) ≡ w + m → l < w + m → suc (w + m - l - 1) - p ≡ d
          go w p m l d e h = omega arith

  -- one below the normal range: it drops none, and keeps what reaches its last place
  pub subnormal : (s : Bool) → w + m ≤ l + p → (i : ℕ) → m + i ≡ l
      → to_bits f (round f s (D * 2 ^ k) (2 ^ l)) ≡ cond s (top f) 0 + min (0 * hid f + closest D (2 ^ i)) (ones f * hid f)
  subnormal s h i e = written s i 0 (over (size (n / 2 ^ l)) p (size-le (n / 2 ^ l) p below)) (e ∙ sym (add-zero l))
    where
      over : (z p : ℕ) → z ≤ p → z - p ≡ 0
      over z p h = omega arith

      below : n / 2 ^ l < 2 ^ p
      below = (div-lt_iff_lt-mul (pow_pos l)).1 (subst (λ (x : ℕ). n < x) (pow-add 2 p l)
          (lt_of_lt_of_le n_lt (pow_mono (le_trans h (le_of_eq (add_comm l p))))))

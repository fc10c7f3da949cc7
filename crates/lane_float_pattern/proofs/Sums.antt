-- Sums of whole numbers are exact, over both formats (document 02, order 4). Of magnitudes up to `hid`, 2^23 at f32 and 2^52 at f64, the pattern of x, the
-- pattern of y and the pattern of their sum are patterns of exactly x, y and x + y (`exact`; `exact_f32` names f32 and 2^23 as the order does). Up to twice
-- that the sum of two patterns is the pattern of the sum (`rounded_once`). Assumes nothing.
use mathlib.Core.Path.{◌≡◌, refl, sym, ap, ◌∙◌}
use mathlib.Core.Bool.{Bool, true, false, not, cond, ◌&&◌}
use Prim.Native.Nat.{ℕ, suc, ◌+◌, ◌-◌, ◌*◌, ◌^◌, ◌≤◌, ◌<◌}
use native.Mathlib.Nat.{le_trans, le_of_eq, zero-lt-suc, mul-one, mul_comm, mul_assoc, mul_right_comm, add-mul, mul-sub, mul-pos, mul-lt-mul_of_pos_right}
use native.Mathlib.Nat.{mul-le-mul_right}
use native.Mathlib.Omega.{arith}
use lib.IntN.{ℤ, pos, negsuc, nat_abs, sub_ℕ, ◌+ℤ◌}
use lib.Dec.{T, ltb, lt→ltb, ltb→lt, nltb→le}
use lib.Arith.{le→nltb}
use lib.Ieee.{Float, nan, inf, fin, Format, binary32, binary64, prec, hid, up, down, round, add, sum, of_int, of_bits, to_bits}
use lib.Ieee.Fits.{down_pos, of_int-fits}
use lib.Ieee.Bits.{of_bits-to_bits, is_true, is_false}
use lib.Ieee.Exact.{HasValue}
use lib.Ieee.Scale.{round_same}
use lib.Ieee.Back.{round_whole}
use Rattle.standard.specs.Float.{whole, fadd}

-- ---- two fractions with one denominator: their sum is that of the numerators, whatever the denominator

sub_scaled : (a b c : ℕ) → a * c - b * c ≡ (a - b) * c
sub_scaled a b c =
    sym (mul_comm (a - b) c ∙ mul-sub c a b ∙ ap (λ (x : ℕ). x - c * b) (mul_comm c a) ∙ ap (λ (x : ℕ). a * c - x) (mul_comm c b))

ltb_scaled : (a b c : ℕ) → 0 < c → ltb (a * c) (b * c) ≡ ltb a b
ltb_scaled a b c C = go (ltb a b) (ltb→lt a b) (nltb→le a b)
  where
    go : (t : Bool) → (T t → a < b) → (T (not t) → b ≤ a) → ltb (a * c) (b * c) ≡ t
    go true h k = is_true (ltb (a * c) (b * c)) (lt→ltb (a * c) (b * c) (mul-lt-mul_of_pos_right (h tt) C))
    go false h k = is_false (ltb (a * c) (b * c)) (le→nltb (a * c) (b * c) (mul-le-mul_right c (k tt)))

round_scaled : (f : Format) (s : Bool) (a c : ℕ) → 0 < c → round f s (a * c) c ≡ round f s a 1
round_scaled f s a c C = round_same f s (a * c) c a 1 C (zero-lt-suc 0) (mul-one (a * c))

sum_scaled : (f : Format) (s : Bool) (a : ℕ) (t : Bool) (b c : ℕ) → 0 < c → sum f s (a * c) t (b * c) c ≡ sum f s a t b 1
unfolding sum
sum_scaled f s a t b c C =
    rw (
      ltb_scaled a b c C,
      ltb_scaled b a c C,
      sub_scaled a b c,
      sub_scaled b a c,
      ← add-mul a b c,
      round_scaled f s (a + b) c C,
      round_scaled f t
          (b - a) c C,
      round_scaled f (s && ltb b a) (a - b) c C,
    )

add_values : (f : Format) (x y : Float) (s t : Bool) (a b : ℕ) → HasValue x s a 1 → HasValue y t b 1 → add f x y ≡ sum f s a t b 1
unfolding add
add_values f nan y s t a b h k = absurd h
add_values f (inf u) y s t a b h k = absurd h
add_values f (fin u m e) nan s t a b h k = absurd k
add_values f (fin u m e) (inf v) s t a b h k = absurd k
add_values f (fin u m e) (fin v n d) s t a b h k =
    let c = down e * down d in
    let p : m * up e * down d ≡ a * c = ap (λ (z : ℕ). z * down d) (sym (mul-one (m * up e)) ∙ h.1) ∙ mul_assoc a (down e) (down d) in
    let q : n * up d * down e ≡ b * c = ap (λ (z : ℕ). z * down e) (sym (mul-one (n * up d)) ∙ k.1) ∙ mul_right_comm b (down d) (down e)
    ∙ mul_assoc b (down e) (down d) in
    rw (p, q, h.0, k.0) (sum_scaled f s a t b c (mul-pos (down_pos e) (down_pos d)))

-- ---- whole numbers: their sum is rounded once, from the whole number that it is

abbrev pub negative : ℤ → Bool
negative (pos n) = false
negative (negsuc n) = true

whole_value : (f : Format) (z : ℤ) → nat_abs z ≤ 2 ^ prec f → HasValue (of_int f z) (negative z) (nat_abs z) 1
unfolding of_int
whole_value f (pos n) h = round_whole f false n h
whole_value f (negsuc n) h = round_whole f true (suc n) h

-- n - (m + 1) as the sum of fractions has it, with the larger magnitude's sign, and +0 where they are equal
module _ (f : Format) (n m : ℕ) where
  above : n < suc m → suc m - n ≡ suc (suc m - suc n)
  above h = omega arith

  less : cond (ltb n (suc m)) (round f true (suc m - n) 1) (round f false (n - suc m) 1) ≡ of_int f (sub_ℕ n (suc m))
  unfolding of_int
  less = go (ltb n (suc m)) (ltb→lt n (suc m))
    where
      go : (t : Bool) → (T t → n < suc m) → cond t (round f true (suc m - n) 1) (round f false (n - suc m) 1)
          ≡ of_int f (cond t (negsuc (suc m - suc n)) (pos (n - suc m)))
      go true h = rw (above (h tt))
      go false h = refl

  less_turned : cond (ltb (suc m) n) (round f false (n - suc m) 1) (round f (ltb n (suc m)) (suc m - n) 1) ≡ of_int f (sub_ℕ n (suc m))
  unfolding of_int
  less_turned = go (ltb (suc m) n) (ltb n (suc m)) (ltb→lt (suc m) n) (nltb→le (suc m) n) (ltb→lt n (suc m)) (nltb→le n (suc m))
    where
      both : suc m < n → n < suc m → ⊥
      both h k = omega arith

      none : n ≤ suc m → suc m ≤ n → suc m - n ≡ n - suc m
      none h k = omega arith

      go : (t u : Bool) → (T t → suc m < n) → (T (not t) → n ≤ suc m) → (T u → n < suc m) → (T (not u) → suc m ≤ n)
          → cond t (round f false (n - suc m) 1) (round f u (suc m - n) 1) ≡ of_int f (cond u (negsuc (suc m - suc n)) (pos (n - suc m)))
      go true true h k l o = absurd (both (h tt) (l tt))
      go true false h k l o = refl
      go false true h k l o = rw (above (l tt))
      go false false h k l o = rw (none (k tt) (o tt))

sum_whole : (f : Format) (x y : ℤ) → sum f (negative x) (nat_abs x) (negative y) (nat_abs y) 1 ≡ of_int f (x +ℤ y)
unfolding sum of_int
sum_whole f (pos a) (pos b) = refl
sum_whole f (pos a) (negsuc b) = less f a b
sum_whole f (negsuc a) (pos b) = less_turned f b a
sum_whole f (negsuc a) (negsuc b) = ap (λ (z : ℕ). round f true z 1) (two_more a b)
  where
    two_more : (a b : ℕ) → suc a + suc b ≡ suc (suc (a + b))
    two_more a b = omega arith

pub rounded_once : (f : Format) (x y : ℤ) → nat_abs x ≤ 2 ^ prec f → nat_abs y ≤ 2 ^ prec f → fadd f (whole f x) (whole f y) ≡ whole f (x +ℤ y)
rounded_once f x y h k =
    rw (of_bits-to_bits f (of_int f x) (of_int-fits f x), of_bits-to_bits f (of_int f y) (of_int-fits f y))
    (ap (to_bits f) (add_values f (of_int f x) (of_int f y) (negative x) (negative y) (nat_abs x) (nat_abs y) (whole_value f x h) (whole_value f y k)
    ∙ sum_whole f x y))

-- ---- up to 2 ^ prec nothing is rounded: a pattern stands for the whole number

-- The number ± m · 2^e of a finite float is z: the same sign and the same magnitude. A NaN and an infinity are no number.
abbrev pub Is : Float → ℤ → Type 0
Is nan z = ⊥
Is (inf s) z = ⊥
Is (fin s m e) z = (s ≡ negative z) × (m * up e ≡ nat_abs z * down e)

is_value : (x : Float) (z : ℤ) → HasValue x (negative z) (nat_abs z) 1 → Is x z
is_value nan z h = h
is_value (inf s) z h = h
is_value (fin s m e) z h = (h.0, sym (mul-one (m * up e)) ∙ h.1)

twice_hid : (f : Format) → 2 ^ prec f ≡ 2 * hid f
twice_hid binary32 = refl
twice_hid binary64 = refl

difference_size : (c a b : ℕ) → a ≤ c → suc b ≤ c → (t : Bool) → nat_abs (cond t (negsuc (suc b - suc a)) (pos (a - suc b))) ≤ 2 * c
difference_size c a b h k true = omega arith
difference_size c a b h k false = omega arith

sum_size : (c : ℕ) (x y : ℤ) → nat_abs x ≤ c → nat_abs y ≤ c → nat_abs (x +ℤ y) ≤ 2 * c
sum_size c (pos a) (pos b) h k = omega arith
sum_size c (negsuc a) (negsuc b) h k = omega arith
sum_size c (pos a) (negsuc b) h k = difference_size c a b h k (ltb a (suc b))
sum_size c (negsuc a) (pos b) h k = difference_size c b a k h (ltb b (suc a))

stands : (f : Format) (z : ℤ) → nat_abs z ≤ 2 * hid f → Is (of_bits f (whole f z)) z
stands f z h =
    rw (of_bits-to_bits f (of_int f z) (of_int-fits f z)) (is_value (of_int f z) z (whole_value f z (le_trans h (le_of_eq (sym (twice_hid f))))))

-- What "sums of whole numbers are exact" says: the patterns of x and of y stand for x and y, and the pattern of their sum for x + y. So nothing is lost at
-- either end.
pub record Exact (f : Format) (x y : ℤ) : Type 0 where
  pub first : Is (of_bits f (whole f x)) x
  pub second : Is (of_bits f (whole f y)) y
  pub sum_is : Is (of_bits f (fadd f (whole f x) (whole f y))) (x +ℤ y)

pub exact : (f : Format) (x y : ℤ) → nat_abs x ≤ hid f → nat_abs y ≤ hid f → Exact f x y
exact f x y h k =
    let once : (n : ℕ) → n ≤ hid f → n ≤ 2 * hid f = λ n l. omega arith in
    let e : fadd f (whole f x) (whole f y) ≡ whole f (x +ℤ y) =
    rounded_once f x y (le_trans (once (nat_abs x) h) (le_of_eq (sym (twice_hid f)))) (le_trans (once (nat_abs y) k) (le_of_eq (sym (twice_hid f)))) in
    record {
      first = stands f x (once (nat_abs x) h);
      second = stands f y (once (nat_abs y) k);
      sum_is = rw e (stands f (x +ℤ y) (sum_size (hid f) x y h k));
    }

-- "f32 sums of whole numbers of magnitude up to 2^23 are exact"
pub exact_f32 : (x y : ℤ) → nat_abs x ≤ 2 ^ 23 → nat_abs y ≤ 2 ^ 23 → Exact binary32 x y
exact_f32 x y h k = exact binary32 x y h k

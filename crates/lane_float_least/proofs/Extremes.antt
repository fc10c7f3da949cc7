-- The lower and the higher of two patterns by one comparison of the numbers, over both float formats. Assumes nothing.
use mathlib.Core.Path.{◌≡◌, refl, sym, ap, ap₂, ◌∙◌, subst}
use mathlib.Core.Bool.{Bool, true, false, not, cond, ◌&&◌, ◌||◌, beq}
use Prim.Native.Nat.{ℕ, zero, suc, ◌+◌, ◌-◌, ◌*◌, ◌/◌, ◌%◌, ◌^◌, ◌<◌}
use native.Mathlib.Nat.{mod-lt, add_comm, mod-eq_of_lt, zero-add, zero-mul}
use native.Mathlib.Omega.{arith}
use borrow.Author.Tests.{ltb-true, ltb-false, lt-ltb, le-ltb, leb-true, leb-false, eqb-true, eqb-false, not-true, not-false}
use lib.Bits.{bit_or, bit_and, or_zero_r, or_block, or_add_and, and_mask}
use lib.Pow.{pow_pos, split, ones_lt}
use lib.Dec.{T, ltb, leb, eqb}
use lib.Ieee.{Float, nan, inf, fin, Format, binary32, binary64, top, ones, hid, low, prec, odd, below, level, lt, eq, of_fields, of_bits, to_bits, nan_bits, is_nan}
use lib.Ieee.Bits.{nan_bits_is}
use Rattle.standard.specs.Float.{under, fmin, fmax}
use Rattle.lane_float_value.proofs.FloatOrder.{ordered}
use Rattle.lane_float_value.proofs.Together.{set_sign, same_size}

never : false ≡ true → ⊥
never e = subst (λ (b : Bool). T (not b)) e tt

-- ---- the sign of the number that a pattern stands for

abbrev Sign : Bool → Float → Type 0
Sign s nan = T true
Sign s (inf t) = t ≡ s
Sign s (fin t m e) = t ≡ s

sign_odd : (d : ℕ) (s : Bool) (q k l : ℕ) → Sign s (odd d s q k l)
unfolding odd
sign_odd d s zero k l = refl
sign_odd d s (suc q) k l = refl

sign_cond : (b s : Bool) (x y : Float) → Sign s x → Sign s y → Sign s (cond b x y)
sign_cond true s x y p q = p
sign_cond false s x y p q = q

sign_fields : (f : Format) (s : Bool) (x t : ℕ) → Sign s (of_fields f s x t)
unfolding of_fields
sign_fields f s zero t = sign_odd (prec f) s t 0 (low f)
sign_fields f s (suc x) t =
    sign_cond (eqb (suc x) (ones f)) s (cond (eqb t 0) (inf s) nan) (odd (prec f) s (hid f + t) x (low f)) (sign_cond (eqb t 0) s (inf s) nan refl tt)
    (sign_odd (prec f) s (hid f + t) x (low f))

sign_of : (f : Format) (a : ℕ) → Sign (leb (top f) a) (of_bits f a)
unfolding of_bits
sign_of f a = sign_fields f (leb (top f) a) (a % top f / hid f) (a % hid f)

agree : (x : Float) {s t : Bool} → T (not (is_nan x)) → Sign s x → Sign t x → s ≡ t
unfolding is_nan
agree nan n p q = absurd n
agree (inf u) n p q = sym p ∙ q
agree (fin u m e) n p q = sym p ∙ q

-- what is below a negative number is negative
negative : (x y : Float) → lt x y ≡ true → Sign true y → Sign true x
unfolding lt
negative nan y h g = tt
negative (inf s) nan h g = absurd (never h)
negative (inf true) (inf t) h g = refl
negative (inf false) (inf t) h g = absurd (never h)
negative (inf s) (fin t n d) h g = h
negative (fin s m e) nan h g = absurd (never h)
negative (fin s m e) (inf true) h g = absurd (never h)
negative (fin s m e) (inf false) h g = absurd (never g)
negative (fin true m e) (fin t n d) h g = refl
negative (fin false m e) (fin true n d) h g = absurd (never h)
negative (fin false m e) (fin false n d) h g = absurd (never g)

-- ---- two numbers are below one another, or equal

and_true : (p : Bool) → p && true ≡ p
and_true true = refl
and_true false = refl

order : (a b : ℕ) → ltb b a ≡ not (ltb a b || eqb a b)
order a b = pick (ltb a b) (eqb a b) refl refl
  where
    pick : (p q : Bool) → ltb a b ≡ p → eqb a b ≡ q → ltb b a ≡ not (p || q)
    pick true q e k = le-ltb b a (omega (arith, ltb-true a b e))
    pick false true e k = le-ltb b a (omega (arith, eqb-true a b k))
    pick false false e k = lt-ltb b a (omega (arith, ltb-false a b e, eqb-false a b k))

order_back : (a b : ℕ) → ltb a b ≡ not (ltb b a || eqb a b)
order_back a b = pick (ltb b a) (eqb a b) refl refl
  where
    pick : (p q : Bool) → ltb b a ≡ p → eqb a b ≡ q → ltb a b ≡ not (p || q)
    pick true q e k = le-ltb a b (omega (arith, ltb-true b a e))
    pick false true e k = le-ltb a b (omega (arith, eqb-true a b k))
    pick false false e k = lt-ltb a b (omega (arith, ltb-false b a e, eqb-false a b k))

zeros : (a b : ℕ) → ltb 0 (b + a) ≡ not (eqb a b && eqb a 0)
zeros a b = pick (eqb a b) (eqb a 0) refl refl
  where
    pick : (p q : Bool) → eqb a b ≡ p → eqb a 0 ≡ q → ltb 0 (b + a) ≡ not (p && q)
    pick true true e k = le-ltb 0 (b + a) (omega (arith, eqb-true a b e, eqb-true a 0 k))
    pick true false e k = lt-ltb 0 (b + a) (omega (arith, eqb-true a b e, eqb-false a 0 k))
    pick false q e k = lt-ltb 0 (b + a) (omega (arith, eqb-false a b e))

or_not : (p q : Bool) → p ≡ not q → false ≡ not (p || q)
or_not true q e = refl
or_not false true e = refl
or_not false false e = e

fractions : (s t : Bool) (a b : ℕ) → below t b s a ≡ not (below s a t b || level s a t b)
fractions false false a b = order a b ∙ ap (λ (q : Bool). not (ltb a b || q)) (sym (and_true (eqb a b)))
fractions false true a b = zeros a b
fractions true false a b = or_not (ltb 0 (a + b)) (eqb a b && eqb a 0) (ap (ltb 0) (add_comm a b) ∙ zeros a b)
fractions true true a b = order_back a b ∙ ap (λ (q : Bool). not (ltb b a || q)) (sym (and_true (eqb a b)))

infinities : (s t : Bool) → t && not s ≡ not ((s && not t) || beq s t)
infinities true true = refl
infinities true false = refl
infinities false true = refl
infinities false false = refl

turned : (x y : Float) → T (not (is_nan x)) → T (not (is_nan y)) → lt y x ≡ not (lt x y || eq x y)
unfolding lt eq is_nan
turned nan y p q = absurd p
turned (inf s) nan p q = absurd q
turned (inf s) (inf t) p q = infinities s t
turned (inf true) (fin t n d) p q = refl
turned (inf false) (fin t n d) p q = refl
turned (fin s m e) nan p q = absurd q
turned (fin s m e) (inf true) p q = refl
turned (fin s m e) (inf false) p q = refl
turned (fin s m e) (fin t n d) p q = fractions s t _ _

-- ---- patterns

plain : (f : Format) (n : ℕ) → leb (top f) n ≡ false → n % top f ≡ n
plain binary32 n h = omega (arith, leb-false 0x80000000 n h)
plain binary64 n h = omega (arith, leb-false 0x8000000000000000 n h)

signed : (f : Format) (n : ℕ) → n < 2 * top f → leb (top f) n ≡ true → top f + n % top f ≡ n
signed binary32 n h k = omega (arith, leb-true 0x80000000 n k)
signed binary64 n h k = omega (arith, leb-true 0x8000000000000000 n k)

-- a number's bits below the sign, or all of them, by the sign of another
ones_or : (k r : ℕ) → r < 2 ^ k → bit_or r (2 ^ k - 1) ≡ 2 ^ k - 1
ones_or k r h = omega (arith, or_add_and r (2 ^ k - 1), and_mask r k ∙ mod-eq_of_lt h)

masked : (k : ℕ) (a b : ℕ) → bit_and a (bit_or b (2 ^ k - 1)) ≡ bit_and a (b / 2 ^ k * 2 ^ k + (2 ^ k - 1))
masked k a b =
    ap (bit_and a)
    (ap₂ bit_or (sym (split b k)) (sym (zero-add (2 ^ k - 1)) ∙ ap (λ (x : ℕ). x + (2 ^ k - 1)) (sym (zero-mul (2 ^ k))))
    ∙ or_block k (b / 2 ^ k) 0 (b % 2 ^ k) (2 ^ k - 1) (mod-lt b (pow_pos k)) (ones_lt k)
    ∙ ap₂ (λ (x y : ℕ). x * 2 ^ k + y) (or_zero_r (b / 2 ^ k)) (ones_or k (b % 2 ^ k) (mod-lt b (pow_pos k))))

some : (f : Format) (b : ℕ) → b < 2 * top f → leb (top f) b ≡ true → b / top f ≡ 1
some binary32 b h k = omega (arith, leb-true 0x80000000 b k)
some binary64 b h k = omega (arith, leb-true 0x8000000000000000 b k)

none : (f : Format) (b : ℕ) → leb (top f) b ≡ false → b / top f ≡ 0
none binary32 b k = omega (arith, leb-false 0x80000000 b k)
none binary64 b k = omega (arith, leb-false 0x8000000000000000 b k)

all : (f : Format) (a b : ℕ) → a < 2 * top f → b < 2 * top f → leb (top f) b ≡ true → bit_and a (bit_or b (top f - 1)) ≡ a
all binary32 a b ha hb h = masked 31 a b ∙ ap (λ (q : ℕ). bit_and a (q * 0x80000000 + 0x7FFFFFFF)) (some binary32 b hb h) ∙ and_mask a 32 ∙ omega arith
all binary64 a b ha hb h =
    masked 63 a b ∙ ap (λ (q : ℕ). bit_and a (q * 0x8000000000000000 + 0x7FFFFFFFFFFFFFFF)) (some binary64 b hb h) ∙ and_mask a 64 ∙ omega arith

part : (f : Format) (a b : ℕ) → leb (top f) b ≡ false → bit_and a (bit_or b (top f - 1)) ≡ a % top f
part binary32 a b h = masked 31 a b ∙ ap (λ (q : ℕ). bit_and a (q * 0x80000000 + 0x7FFFFFFF)) (none binary32 b h) ∙ and_mask a 31
part binary64 a b h = masked 63 a b ∙ ap (λ (q : ℕ). bit_and a (q * 0x8000000000000000 + 0x7FFFFFFFFFFFFFFF)) (none binary64 b h) ∙ and_mask a 63

module _ (f : Format) (a b : ℕ) (ha : a < 2 * top f) (hb : b < 2 * top f) (na : T (not (nan_bits f a))) (nb : T (not (nan_bits f b))) where
  number : (n : ℕ) → T (not (nan_bits f n)) → T (not (is_nan (of_bits f n)))
  number n h = subst (λ (b : Bool). T (not b)) (nan_bits_is f n) h

  apart : lt (of_bits f b) (of_bits f a) ≡ not (lt (of_bits f a) (of_bits f b) || eq (of_bits f a) (of_bits f b))
  apart = turned (of_bits f a) (of_bits f b) (number a na) (number b nb)

  size : eq (of_bits f a) (of_bits f b) ≡ true → a % top f ≡ b % top f
  size = same_size f a b ha hb

  follows : (x y : ℕ) → T (not (nan_bits f x)) → lt (of_bits f x) (of_bits f y) ≡ true → leb (top f) y ≡ true → leb (top f) x ≡ true
  follows x y n h k =
      agree (of_bits f x) (number x n) (sign_of f x) (negative (of_bits f x) (of_bits f y) h (subst (λ (s : Bool). Sign s (of_bits f y)) k (sign_of f y)))

  lower : cond (lt (of_bits f b) (of_bits f a)) b (bit_or a (cond (leb (top f) b) (top f) 0)) ≡ cond (under f a b) a b
  lower =
      ap (λ (t : Bool). cond t b (bit_or a (cond (leb (top f) b) (top f) 0))) apart
      ∙ decide (lt (of_bits f a) (of_bits f b)) (eq (of_bits f a) (of_bits f b)) (leb (top f) a) (leb (top f) b) refl refl refl refl
    where
      decide : (p q s t : Bool) → lt (of_bits f a) (of_bits f b) ≡ p → eq (of_bits f a) (of_bits f b) ≡ q → leb (top f) a ≡ s → leb (top f) b ≡ t
          → cond (not (p || q)) b (bit_or a (cond t (top f) 0)) ≡ cond (p || (q && s)) a b
      decide true q s false i j k l = or_zero_r a
      decide true q true true i j k l = set_sign f a ha ∙ signed f a ha k
      decide true q false true i j k l = absurd (never (sym k ∙ follows a b na i l))
      decide false false s t i j k l = refl
      decide false true true false i j k l = or_zero_r a
      decide false true true true i j k l = set_sign f a ha ∙ signed f a ha k
      decide false true false false i j k l = or_zero_r a ∙ sym (plain f a k) ∙ size j ∙ plain f b l
      decide false true false true i j k l = set_sign f a ha ∙ ap (λ (n : ℕ). top f + n) (size j) ∙ signed f b hb l

  higher : cond (lt (of_bits f a) (of_bits f b)) b (bit_and a (bit_or b (top f - 1))) ≡ cond (under f a b) b a
  higher = decide (lt (of_bits f a) (of_bits f b)) (eq (of_bits f a) (of_bits f b)) (leb (top f) a) (leb (top f) b) refl refl refl refl
    where
      decide : (p q s t : Bool) → lt (of_bits f a) (of_bits f b) ≡ p → eq (of_bits f a) (of_bits f b) ≡ q → leb (top f) a ≡ s → leb (top f) b ≡ t
          → cond p b (bit_and a (bit_or b (top f - 1))) ≡ cond (p || (q && s)) b a
      decide true q s t i j k l = refl
      decide false false s true i j k l = all f a b ha hb l
      decide false false true false i j k l = absurd (never (sym l ∙ follows b a nb (apart ∙ ap₂ (λ (u v : Bool). not (u || v)) i j) k))
      decide false false false false i j k l = part f a b l ∙ plain f a k
      decide false true true true i j k l = all f a b ha hb l ∙ sym (signed f a ha k) ∙ ap (λ (n : ℕ). top f + n) (size j) ∙ signed f b hb l
      decide false true false true i j k l = all f a b ha hb l
      decide false true true false i j k l = part f a b l ∙ size j ∙ plain f b l
      decide false true false false i j k l = part f a b l ∙ plain f a k

-- ---- the least and the greatest, by the test whether neither is a NaN
module _ (f : Format) (a b : ℕ) {t : Bool} (e : t ≡ not (nan_bits f a || nan_bits f b)) where
  pub least : a < 2 * top f → b < 2 * top f → t ≡ true → cond (lt (of_bits f b) (of_bits f a)) b (bit_or a (cond (leb (top f) b) (top f) 0)) ≡ fmin f a b
  least ha hb h = let n = ordered f a b e h in lower f a b ha hb n.0 n.1 ∙ rw (not-true (nan_bits f a || nan_bits f b) (sym e ∙ h))

  pub greatest : a < 2 * top f → b < 2 * top f → t ≡ true → cond (lt (of_bits f a) (of_bits f b)) b (bit_and a (bit_or b (top f - 1))) ≡ fmax f a b
  greatest ha hb h = let n = ordered f a b e h in higher f a b ha hb n.0 n.1 ∙ rw (not-true (nan_bits f a || nan_bits f b) (sym e ∙ h))

  pub with_nan : t ≡ false → (x : ℕ) → to_bits f nan ≡ cond (nan_bits f a || nan_bits f b) (to_bits f nan) x
  with_nan h x = rw (not-false (nan_bits f a || nan_bits f b) (sym e ∙ h))

pub sign_fits : (f : Format) (x : ℕ) (s : Bool) → x < 2 * top f → bit_or x (cond s (top f) 0) < 2 * top f
sign_fits binary32 x true h = omega (arith, set_sign binary32 x h)
sign_fits binary64 x true h = omega (arith, set_sign binary64 x h)
sign_fits f x false h = subst (λ (n : ℕ). n < 2 * top f) (sym (or_zero_r x)) h

-- of values that have patterns, one picked by a test
module _ {P : Type 0} (bits : P → ℕ) (b first : P) where
  picked : {r : P} (u : Bool) → r ≡ cond u b first → bits r ≡ cond u (bits b) (bits first)
  picked true h = ap bits h
  picked false h = ap bits h

  pub one_of : {r : P} {t u : Bool} {n : ℕ} → r ≡ cond t b first → t ≡ u → bits first ≡ n → bits r ≡ cond u (bits b) n
  one_of {r} {t} {u} h e k = picked t h ∙ ap₂ (λ (v : Bool) (m : ℕ). cond v (bits b) m) e k

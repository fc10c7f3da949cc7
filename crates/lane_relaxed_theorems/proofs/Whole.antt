-- Whole numbers modulo 2^16: sums and products, numbers that are their own signed reading, and those that the range holds. Assumes nothing.
use mathlib.Core.Path.{◌≡◌, refl, sym, ap, ap₂, ◌∙◌, subst⁻¹}
use mathlib.Core.Bool.{Bool, true, false, cond}
use Prim.Native.Nat.{ℕ, zero, suc, ◌+◌, ◌-◌, ◌*◌, ◌%◌, ◌^◌, ◌<◌, ◌≤◌}
use native.Mathlib.Nat.{add_comm, mod-eq_of_lt, mul-add, add-mul, mul_comm, mul-le-mul, not-suc-le-zero}
use native.Mathlib.Omega.{arith}
use borrow.Author.Tests.{lt-ltb, le-ltb, ltb-true, ltb-false}
use lib.Dec.{ltb}
use lib.IntN.{ℤ, pos, negsuc, neg_ℤ, ◌+ℤ◌, ◌*ℤ◌, pos-ne-negsuc}
use lib.Signed.{mag}
use Rattle.standard.specs.Integer.{signed, modulo, sat_s, iadd, imul}

-- From −lo to hi.
abbrev pub Within : ℕ → ℕ → ℤ → Type 0
Within lo hi (pos n) = n ≤ hi
Within lo hi (negsuc n) = n < lo

-- sums, with their bounds
either : (a b : ℕ) (t : Bool) {lo hi : ℕ} → ltb a b ≡ t → a ≤ hi → b ≤ lo → Within lo hi (cond t (negsuc (b - suc a)) (pos (a - b)))
either a b true e h k = let l = ltb-true a b e in omega arith
either a b false e h k = omega arith

pub sum_within : (lo hi lo' hi' : ℕ) (x y : ℤ) → Within lo hi x → Within lo' hi' y → Within (lo + lo') (hi + hi') (x +ℤ y)
sum_within lo hi lo' hi' (pos a) (pos b) h k = omega arith
sum_within lo hi lo' hi' (pos a) (negsuc b) h k = either a (suc b) (ltb a (suc b)) refl (omega arith) (omega arith)
sum_within lo hi lo' hi' (negsuc a) (pos b) h k = either b (suc a) (ltb b (suc a)) refl (omega arith) (omega arith)
sum_within lo hi lo' hi' (negsuc a) (negsuc b) h k = omega arith

difference : (a b : ℕ) (t : Bool) → ltb a (suc b) ≡ t → (a % 2 ^ 16 + (2 ^ 16 - suc (b % 2 ^ 16))) % 2 ^ 16
    ≡ modulo 16 (cond t (negsuc (suc b - suc a)) (pos (a - suc b)))
difference a b true e = let l = ltb-true a (suc b) e in omega arith
difference a b false e = let l = ltb-false a (suc b) e in omega arith

pub sum_modulo : (x y : ℤ) → iadd 16 (modulo 16 x) (modulo 16 y) ≡ modulo 16 (x +ℤ y)
sum_modulo (pos a) (pos b) = omega arith
sum_modulo (pos a) (negsuc b) = difference a b (ltb a (suc b)) refl
sum_modulo (negsuc a) (pos b) = ap (λ (k : ℕ). k % 2 ^ 16) (add_comm _ (b % 2 ^ 16)) ∙ difference b a (ltb b (suc a)) refl
sum_modulo (negsuc a) (negsuc b) = omega arith

-- products of numbers of 8 bits
negated : (p : ℕ) → p ≤ 2 ^ 16 → (2 ^ 16 - p) % 2 ^ 16 ≡ modulo 16 (neg_ℤ (pos p))
negated zero h = refl
negated (suc p) h = omega arith

-- a·v, where v is −b modulo 2^16
turned : (a b v : ℕ) → v + b ≡ 2 ^ 16 → a * b ≤ 2 ^ 16 → a * v % 2 ^ 16 ≡ modulo 16 (neg_ℤ (pos (a * b)))
turned a b v e h = omega (arith, mul-add a v b, ap (λ (k : ℕ). a * k) e) ∙ negated (a * b) h

crossed : (a b : ℕ) → a ≤ 127 → b < 128 → a % 2 ^ 16 * (2 ^ 16 - suc (b % 2 ^ 16)) % 2 ^ 16 ≡ modulo 16 (neg_ℤ (pos (a * suc b)))
crossed a b h k =
    ap (λ (u : ℕ). u * (2 ^ 16 - suc (b % 2 ^ 16)) % 2 ^ 16) (mod-eq_of_lt (omega arith))
    ∙ turned a (suc b) (2 ^ 16 - suc (b % 2 ^ 16)) (omega arith) (omega (arith, mul-le-mul {n₁ = a} {m₁ = suc b} {n₂ = 127} {m₂ = 128} h k))

pub product_modulo : (x y : ℤ) → Within 128 127 x → Within 128 127 y → imul 16 (modulo 16 x) (modulo 16 y) ≡ modulo 16 (x *ℤ y)
product_modulo (pos a) (pos b) h k =
    ap₂ (λ (u v : ℕ). u * v % 2 ^ 16) (mod-eq_of_lt (omega arith)) (mod-eq_of_lt (omega arith))
product_modulo (pos a) (negsuc b) h k = crossed a b h k
product_modulo (negsuc a) (pos b) h k =
    ap (λ (u : ℕ). u % 2 ^ 16) (mul_comm (2 ^ 16 - suc (a % 2 ^ 16)) (b % 2 ^ 16)) ∙ crossed b a k h
    ∙ ap (λ (u : ℕ). modulo 16 (neg_ℤ (pos u))) (mul_comm b (suc a))
product_modulo (negsuc a) (negsuc b) h k =
    let u = 2 ^ 16 - suc (a % 2 ^ 16) in
    let v = 2 ^ 16 - suc (b % 2 ^ 16) in
    let eu : u + suc a ≡ 2 ^ 16 = omega arith in
    let ev : v + suc b ≡ 2 ^ 16 = omega arith in
    omega (arith, mul-add u v (suc b), ap (λ (k : ℕ). u * k) ev, add-mul u (suc a) (suc b), ap (λ (k : ℕ). k * suc b) eu)

-- A product of numbers of 8 bits: at least −128·127, and at most (−128)·(−128), which only −128 and −128 give; of one that is not negative at most 127·127.
minus_within : (lo hi p : ℕ) → p ≤ lo → Within lo hi (neg_ℤ (pos p))
minus_within lo hi zero h = omega arith
minus_within lo hi (suc p) h = h

pub product_within : (x y : ℤ) → Within 128 127 x → Within 128 127 y → Within 16256 16384 (x *ℤ y)
product_within (pos a) (pos b) h k = omega (arith, mul-le-mul {n₁ = a} {m₁ = b} {n₂ = 127} {m₂ = 127} h k)
product_within (pos a) (negsuc b) h k = minus_within 16256 16384 (a * suc b) (mul-le-mul {n₁ = a} {m₁ = suc b} {n₂ = 127} {m₂ = 128} h k)
product_within (negsuc a) (pos b) h k = minus_within 16256 16384 (suc a * b) (mul-le-mul {n₁ = suc a} {m₁ = b} {n₂ = 128} {m₂ = 127} h k)
product_within (negsuc a) (negsuc b) h k = mul-le-mul {n₁ = suc a} {m₁ = suc b} {n₂ = 128} {m₂ = 128} h k

pub product_short : (x y : ℤ) → Within 128 127 x → Within 128 127 y → (x ≡ negsuc 127 → y ≡ negsuc 127 → ⊥) → Within 16256 16256 (x *ℤ y)
product_short (pos a) (pos b) h k n = omega (arith, mul-le-mul {n₁ = a} {m₁ = b} {n₂ = 127} {m₂ = 127} h k)
product_short (pos a) (negsuc b) h k n = minus_within 16256 16256 (a * suc b) (mul-le-mul {n₁ = a} {m₁ = suc b} {n₂ = 127} {m₂ = 128} h k)
product_short (negsuc a) (pos b) h k n = minus_within 16256 16256 (suc a * b) (mul-le-mul {n₁ = suc a} {m₁ = b} {n₂ = 128} {m₂ = 127} h k)
product_short (negsuc a) (negsuc b) h k n = by (ltb a 127) refl
  where
    by : (t : Bool) → ltb a 127 ≡ t → suc a * suc b ≤ 16256
    by true e = mul-le-mul {n₁ = suc a} {m₁ = suc b} {n₂ = 127} {m₂ = 128} (ltb-true a 127 e) k
    by false e =
        let l = ltb-false a 127 e in
        let ea : a ≡ 127 = omega arith in
        let ne : b ≡ 127 → ⊥ = λ eb. n (ap negsuc ea) (ap negsuc eb) in
        mul-le-mul {n₁ = suc a} {m₁ = suc b} {n₂ = 128} {m₂ = 127} h (omega (arith, ne))

pub product_of_seven : (x y : ℤ) → Within 128 127 x → Within 0 127 y → Within 16256 16129 (x *ℤ y)
product_of_seven (pos a) (pos b) h k = mul-le-mul {n₁ = a} {m₁ = b} {n₂ = 127} {m₂ = 127} h k
product_of_seven (negsuc a) (pos b) h k = minus_within 16256 16129 (suc a * b) (mul-le-mul {n₁ = suc a} {m₁ = b} {n₂ = 128} {m₂ = 127} h k)
product_of_seven x (negsuc b) h k = absurd (not-suc-le-zero k)

-- The signed reading of a byte, and of a number modulo 2^16; and a number that the 16-bit range holds as it is.
below_zero : (a : ℕ) → a < 2 ^ 8 → 128 ≤ a → signed 8 a ≡ negsuc (255 - a)
below_zero a h k = rw (le-ltb a 128 k, lt-ltb a 256 h) (ap negsuc (omega arith))

pub plain : (a : ℕ) → a ≤ 127 → signed 8 a ≡ pos a
plain a h = rw (lt-ltb a 128 (omega arith))

pub byte_within : (a : ℕ) → a < 2 ^ 8 → Within 128 127 (signed 8 a)
byte_within a h = by (ltb a 128) refl
  where
    by : (t : Bool) → ltb a 128 ≡ t → Within 128 127 (signed 8 a)
    by true e = let l = ltb-true a 128 e in subst⁻¹ (Within 128 127) (plain a (omega arith)) (omega arith)
    by false e = let l = ltb-false a 128 e in subst⁻¹ (Within 128 127) (below_zero a h l) (omega arith)

pub lowest_byte : (a : ℕ) → a < 2 ^ 8 → signed 8 a ≡ negsuc 127 → a ≡ 128
lowest_byte a h e = by (ltb a 128) refl
  where
    by : (t : Bool) → ltb a 128 ≡ t → a ≡ 128
    by true l = absurd (pos-ne-negsuc a 127 (sym (plain a (let m = ltb-true a 128 l in omega arith)) ∙ e))
    by false l = let m = ltb-false a 128 l in let q : 255 - a ≡ 127 = ap mag (sym (below_zero a h m) ∙ e) in omega arith

pub reads_back : (z : ℤ) → Within 32768 32767 z → signed 16 (modulo 16 z) ≡ z
reads_back (pos n) h =
    let m : n % 2 ^ 16 ≡ n = mod-eq_of_lt (omega arith) in
    rw (m, lt-ltb n 32768 (omega arith))
reads_back (negsuc n) h =
    let m : n % 2 ^ 16 ≡ n = mod-eq_of_lt (omega arith) in
    rw (m, le-ltb (65536 - suc n) 32768 (omega arith), lt-ltb (65536 - suc n) 65536 (omega arith)) (ap negsuc (omega arith))

pub not_capped : (z : ℤ) → Within 32768 32767 z → sat_s 16 z ≡ modulo 16 z
not_capped (pos n) h = rw (le-ltb 32767 n h)
not_capped (negsuc n) h = rw (le-ltb 32767 n (omega arith))

pub widened : (lo hi lo' hi' : ℕ) (z : ℤ) → lo ≤ lo' → hi ≤ hi' → Within lo hi z → Within lo' hi' z
widened lo hi lo' hi' (pos n) l u h = omega arith
widened lo hi lo' hi' (negsuc n) l u h = omega arith

-- The sign bits of the lanes of a half, one lane at a time from the low end: the next one is put above those that are there. Assumes nothing.
use mathlib.Core.Path.{◌≡◌, refl, sym, ap, ◌∙◌}
use mathlib.Core.Bool.{Bool, true, false, cond}
use mathlib.Core.List.{List, [], ◌∷◌, map}
use Prim.Native.Nat.{ℕ, zero, suc, ◌+◌, ◌*◌, ◌/◌, ◌%◌, ◌^◌, ◌<◌, ◌≤◌}
use native.Mathlib.Nat.{add_comm, pow-suc, mul_assoc, mul-suc, add-sub_cancel_left, div-eq_of_lt, le-div_iff_mul-le, one-mul, mod-lt, mod-eq_of_lt}
use native.Mathlib.Nat.{lt_of_lt_of_le}
use native.Mathlib.Omega.{arith}
use borrow.Author.Tests.{lt-ltb, ltb-true, ltb-false}
use lib.Dec.{ltb, lit<}
use lib.IntN.{pos, ◌-ℤ◌}
use lib.Signed.{non_neg}
use lib.Pow.{pow_pos, pow_mono, shl_lt, shr_lt, shr-shr, field}
use lib.Bits.{bit_and, bit_or, and_mask, or_shifted_r}
use lib.ListN.{length-map}
use Rattle.standard.specs.Lanes.{digits, joined}
use Rattle.standard.specs.Integer.{signed}
use Rattle.standard.proofs.Digits.{Below, joined_lt, length_digits}
use Rattle.packed_half.specs.Half.{sign_bit}

-- the sign bit of a lane of 1 + v bits is its top bit
below_zero : (x m : ℕ) → x < m → non_neg (pos x -ℤ pos m) ≡ false
below_zero x zero h = elim h [ ]
below_zero x (suc m) h = rw (lt-ltb x (suc m) h)

pub top_sign : (v p : ℕ) → p < 2 ^ (1 + v) → p / 2 ^ v ≡ sign_bit (1 + v) p
top_sign v p hp =
    by (ltb p (2 ^ v)) refl
    ∙ ap (λ (u : ℕ). cond (non_neg (cond (ltb p (2 ^ u)) (pos p) (pos p -ℤ pos (2 ^ (1 + v))))) 0 1) (sym (add-sub_cancel_left 1 v))
  where
    by : (t : Bool) → ltb p (2 ^ v) ≡ t → p / 2 ^ v ≡ cond (non_neg (cond t (pos p) (pos p -ℤ pos (2 ^ (1 + v))))) 0 1
    by true e = div-eq_of_lt (ltb-true p (2 ^ v) e)
    by false e =
        let reaches : 1 * 2 ^ v ≤ p = rw (one-mul (2 ^ v)) (ltb-false p (2 ^ v) e) in
        let some : 1 ≤ p / 2 ^ v = (le-div_iff_mul-le (pow_pos v)).1 reaches in
        rw (below_zero p (2 ^ (1 + v)) hp) (omega (arith, shr_lt 1 v hp))

-- the sign bits of the n lowest lanes of w bits, in a row
abbrev pub signs : ℕ → ℕ → ℕ → ℕ
signs w n a = joined 1 (map (sign_bit w) (digits w n a))

-- they are n bits
bit_below : (t : Bool) → cond t 0 1 < 2
bit_below true = lit< tt
bit_below false = lit< tt

all_below : (w : ℕ) (xs : List ℕ) → Below 2 (map (sign_bit w) xs)
all_below w [] = tt
all_below w (x ∷ xs) = (bit_below (non_neg (signed w x)), all_below w xs)

pub signs_below : (w n a : ℕ) → signs w n a < 2 ^ n
signs_below w n a = rw (one-mul, length-map, length_digits) at (joined_lt 1 (map (sign_bit w) (digits w n a)) (all_below w (digits w n a)))

-- one lane more: its sign bit is bit w·n + w − 1 of the half, and has n bits below it
low_sign : (v a : ℕ) → sign_bit (1 + v) (a % 2 ^ (1 + v)) ≡ a / 2 ^ v % 2
low_sign v a = sym (top_sign v (a % 2 ^ (1 + v)) (mod-lt a (pow_pos (1 + v)))) ∙ field a 1 v

above : (s t q p : ℕ) → s + 2 * (t + q * p) ≡ s + 2 * t + q * (p * 2)
above s t q p = rw (← mul_assoc q p 2) (omega arith)

one_more : (v n a : ℕ) → signs (1 + v) (suc n) a ≡ signs (1 + v) n a + a / 2 ^ ((1 + v) * n + v) % 2 * 2 ^ n
one_more v zero a =
    let here : (1 + v) * 0 + v ≡ v = omega arith in
    rw (here, low_sign v a) (omega arith)
one_more v (suc n) a =
    let up : 1 + v + ((1 + v) * n + v) ≡ (1 + v) * suc n + v = rw (mul-suc) (omega arith) in
    ap (λ (r : ℕ). sign_bit (1 + v) (a % 2 ^ (1 + v)) + 2 * r)
    (one_more v n (a / 2 ^ (1 + v)) ∙ ap (λ (q : ℕ). signs (1 + v) n (a / 2 ^ (1 + v)) + q % 2 * 2 ^ n)
    (shr-shr a (1 + v) ((1 + v) * n + v) ∙ ap (λ (k : ℕ). a / 2 ^ k) up))
    ∙ above (sign_bit (1 + v) (a % 2 ^ (1 + v))) (signs (1 + v) n (a / 2 ^ (1 + v))) (a / 2 ^ ((1 + v) * suc n + v) % 2) (2 ^ n)
    ∙ ap (λ (p : ℕ). signs (1 + v) (suc n) a + a / 2 ^ ((1 + v) * suc n + v) % 2 * p) (sym (pow-suc 2 n))

-- As the code has it, in 32 bits: the lowest lane's sign bit, and that of each lane after it, put above those of the lanes below it.
abbrev pub gathered : ℕ → ℕ → ℕ → ℕ
gathered v zero a = bit_and (a / 2 ^ v) 1
gathered v (suc n) a = bit_or (gathered v n a) (bit_and (a / 2 ^ ((1 + v) * suc n + v)) 1 * 2 ^ suc n % 2 ^ 32)

-- the lowest bit of a number
pub lowest : (n : ℕ) → bit_and n 1 ≡ n % 2
lowest n = and_mask n 1

shifted : (b n : ℕ) → n < 32 → b % 2 * 2 ^ n % 2 ^ 32 ≡ b % 2 * 2 ^ n
shifted b n h =
    let held : 1 + n ≤ 32 = omega arith in
    mod-eq_of_lt (lt_of_lt_of_le (shl_lt 1 n (mod-lt b (lit< tt))) (pow_mono held))

pub gathered_is : (v n a : ℕ) → n < 32 → gathered v n a ≡ signs (1 + v) (suc n) a
gathered_is v zero a h = lowest (a / 2 ^ v) ∙ sym (low_sign v a) ∙ omega arith
gathered_is v (suc n) a h =
    rw (gathered_is v n a (omega arith), lowest (a / 2 ^ ((1 + v) * suc n + v)), shifted (a / 2 ^ ((1 + v) * suc n + v)) (suc n) h)
    (or_shifted_r (a / 2 ^ ((1 + v) * suc n + v) % 2) (suc n) (signs (1 + v) (suc n) a) (signs_below (1 + v) (suc n) a)
    ∙ add_comm (a / 2 ^ ((1 + v) * suc n + v) % 2 * 2 ^ suc n) (signs (1 + v) (suc n) a) ∙ sym (one_more v (suc n) a))

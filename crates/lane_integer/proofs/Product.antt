-- Products of lanes, over the width; the low half of a product of two numbers from their halves; the count of ones.
-- Assumes nothing.
use Rattle.std.proofs.Common.{◌≡◌, ℕ, zero, suc, ◌+◌, ◌*◌, ◌/◌, ◌%◌, ◌^◌, ◌<◌, T, leb, sym, ap, ◌∙◌, ap₂, lt_of_lt_of_le, lt_of_le_of_lt, le_of_lt, mul_assoc, add-mul, mul-le-mul_left, mul-lt-mul_of_pos_right, div-add-mod', mul-add, mul_right_comm, add-one, arith, leb→le, pow_pos, pow_mono, pow-add, shr_lt, Fits}
use mathlib.Core.Path.{subst⁻¹}
use native.Mathlib.Nat.{mul-mul-mul_comm, add-mul-mod_self_right}
use lib.Arith.{lt-one}
use lib.Count.{ones, ones_step}
use mir.Syntax.{Width}
use mir.Val.{bits}
use Rattle.standard.specs.Integer.{ipopcnt}

-- the product of two numbers of k bits has at most k + k
below : (k : ℕ) {a b : ℕ} → a < 2 ^ k → b < 2 ^ k → a * b < 2 ^ (k + k)
below k {a} {b} ha hb =
    subst⁻¹ (λ (n : ℕ). a * b < n) (pow-add 2 k k)
    (lt_of_le_of_lt (mul-le-mul_left a (le_of_lt hb)) (mul-lt-mul_of_pos_right ha (pow_pos k)))

pub product_fits : (k : ℕ) (w : Width) {a b : ℕ} → T (leb (k + k) (bits w)) → a < 2 ^ k → b < 2 ^ k → Fits w (a * b)
product_fits k w t ha hb = record { fits = lt_of_lt_of_le (below k ha hb) (pow_mono (leb→le (k + k) (bits w) t)) }

-- by halves: (a·p + x)·(b·p + y), multiplied out
expanded : (p a x b y : ℕ) → (a * p + x) * (b * p + y) ≡ a * b * (p * p) + a * y * p + (x * b * p + x * y)
expanded p a x b y =
    add-mul (a * p) x (b * p + y)
    ∙ ap₂ ◌+◌ (mul-add (a * p) (b * p) y ∙ ap₂ ◌+◌ (mul-mul-mul_comm a p b p) (mul_right_comm a p y))
    (mul-add x (b * p) y ∙ ap (λ (k : ℕ). k + x * y) (sym (mul_assoc x b p)))

pub low_product : (a b m : ℕ) → m ≡ (a / 2 ^ 32 * (b % 2 ^ 32) + a % 2 ^ 32 * (b / 2 ^ 32)) % 2 ^ 64
    → (a % 2 ^ 32 * (b % 2 ^ 32) + m % 2 ^ 32 * 2 ^ 32) % 2 ^ 64 ≡ a * b % 2 ^ 64
low_product a b m e =
    sym (ap (λ (n : ℕ). n % 2 ^ 64) regrouped ∙ add-mul-mod_self_right low (high + middle / 2 ^ 32) (2 ^ 64))
  where
    high : ℕ
    high = a / 2 ^ 32 * (b / 2 ^ 32)

    middle : ℕ
    middle = a / 2 ^ 32 * (b % 2 ^ 32) + a % 2 ^ 32 * (b / 2 ^ 32)

    low : ℕ
    low = a % 2 ^ 32 * (b % 2 ^ 32) + m % 2 ^ 32 * 2 ^ 32

    halves : a * b ≡ (a / 2 ^ 32 * 2 ^ 32 + a % 2 ^ 32) * (b / 2 ^ 32 * 2 ^ 32 + b % 2 ^ 32)
    halves = sym (ap₂ ◌*◌ (div-add-mod' a (2 ^ 32)) (div-add-mod' b (2 ^ 32)))

    regrouped : a * b ≡ low + (high + middle / 2 ^ 32) * 2 ^ 64
    regrouped = omega (arith, halves, expanded (2 ^ 32) (a / 2 ^ 32) (a % 2 ^ 32) (b / 2 ^ 32) (b % 2 ^ 32))

-- the language's count of ones is the standard's
pub counts : (n x : ℕ) → x < 2 ^ n → ones x ≡ ipopcnt n x
unfolding ones
counts zero x h = ap ones (lt-one h)
counts (suc n) x h = ones_step x ∙ ap (λ (k : ℕ). x % 2 + k) (counts n (x / 2) (shr_lt n 1 (rw add-one h)))

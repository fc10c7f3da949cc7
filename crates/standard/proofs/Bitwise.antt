-- The machine's bitwise operations are the standard's, bit by bit, for numbers of any count of bits.
-- Assumes nothing.
use mathlib.Core.Path.{◌≡◌, refl, ap, ap₂, ◌∙◌}
use Prim.Native.Nat.{ℕ, zero, suc, ◌+◌, ◌-◌, ◌*◌, ◌/◌, ◌%◌, ◌^◌, ◌<◌, min, max}
use native.Mathlib.Nat.{pow-suc, mul_comm, add_comm, mod-lt}
use native.Mathlib.Numerals.{add-one}
use native.Mathlib.Omega.{arith}
use lib.Arith.{lt-one}
use lib.Bits.{bit_and, bit_or, bit_xor, differ, and_step, or_step, xor_step}
use lib.Pow.{shr_lt, pow_pos}
use Rattle.standard.specs.Lanes.{unary, binary}
use Rattle.standard.specs.Integer.{inot, bitwise, iand, ior, ixor}
use Rattle.standard.proofs.Halves.{unary_halves, binary_halves}

half_lt : (n a : ℕ) → a < 2 ^ suc n → a / 2 < 2 ^ n
half_lt n a h = shr_lt n 1 (rw add-one h)

-- an operation that goes bit by bit from the low end
by_bits : (op f : ℕ → ℕ → ℕ) → op 0 0 ≡ 0 → ((a b : ℕ) → op a b ≡ op (a / 2) (b / 2) * 2 + f (a % 2) (b % 2))
    → (n a b : ℕ) → a < 2 ^ n → b < 2 ^ n → op a b ≡ bitwise f n a b
unfolding bitwise
by_bits op f none step zero a b ha hb = ap₂ op (lt-one ha) (lt-one hb) ∙ none
by_bits op f none step (suc n) a b ha hb =
    step a b
    ∙ add_comm (op (a / 2) (b / 2) * 2) (f (a % 2) (b % 2))
    ∙ ap (λ (k : ℕ). f (a % 2) (b % 2) + k)
    (mul_comm (op (a / 2) (b / 2)) 2 ∙ ap (λ (k : ℕ). 2 * k) (by_bits op f none step n (a / 2) (b / 2) (half_lt n a ha) (half_lt n b hb)))

differ_is : (x y : ℕ) → x < 2 → y < 2 → differ x y ≡ (x + y) % 2
differ_is zero zero hx hy = refl
differ_is zero (suc zero) hx hy = refl
differ_is zero (suc (suc y)) hx hy = absurd (omega arith)
differ_is (suc zero) zero hx hy = refl
differ_is (suc zero) (suc zero) hx hy = refl
differ_is (suc zero) (suc (suc y)) hx hy = absurd (omega arith)
differ_is (suc (suc x)) y hx hy = absurd (omega arith)

pub and_bits : (n a b : ℕ) → a < 2 ^ n → b < 2 ^ n → bit_and a b ≡ iand n a b
and_bits = by_bits bit_and min refl and_step

pub or_bits : (n a b : ℕ) → a < 2 ^ n → b < 2 ^ n → bit_or a b ≡ ior n a b
or_bits = by_bits bit_or max refl or_step

pub xor_bits : (n a b : ℕ) → a < 2 ^ n → b < 2 ^ n → bit_xor a b ≡ ixor n a b
xor_bits =
    by_bits bit_xor (λ i j. (i + j) % 2) refl
    (λ a b. xor_step a b ∙ ap (λ (k : ℕ). bit_xor (a / 2) (b / 2) * 2 + k) (differ_is (a % 2) (b % 2) (mod-lt a (pow_pos 1)) (mod-lt b (pow_pos 1))))

pub not_bits : (n a : ℕ) → a < 2 ^ n → (2 ^ n - 1) - a ≡ inot n a
unfolding inot
not_bits zero a h = omega (arith, lt-one h)
not_bits (suc n) a h =
    omega (arith, pow-suc 2 n, pow_pos n) ∙ ap (λ (k : ℕ). (1 - a % 2) + 2 * k) (not_bits n (a / 2) (half_lt n a h))

-- on the two halves of a vector
pub bitwise_halves : (f : ℕ → ℕ → ℕ) (a b c d : ℕ) → a < 2 ^ 64 → c < 2 ^ 64 → {lo hi : ℕ} → lo ≡ bitwise f 64 a c → hi ≡ bitwise f 64 b d
    → lo + 2 ^ 64 * hi ≡ bitwise f 128 (a + 2 ^ 64 * b) (c + 2 ^ 64 * d)
unfolding bitwise binary
bitwise_halves f a b c d ha hc el eh = binary_halves 1 64 refl refl a b ha f c d hc el eh

pub not_halves : (a b : ℕ) → a < 2 ^ 64 → b < 2 ^ 64 → ((2 ^ 64 - 1) - a) + 2 ^ 64 * ((2 ^ 64 - 1) - b) ≡ inot 128 (a + 2 ^ 64 * b)
unfolding inot unary
not_halves a b ha hb = unary_halves 1 64 refl refl a b ha (λ i. 1 - i) (not_bits 64 a ha) (not_bits 64 b hb)

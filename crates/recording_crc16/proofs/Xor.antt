-- The laws of exclusive or that the check needs. Assumes nothing.
use mathlib.Core.Path.{◌≡◌, refl, sym, ap, ap₂, ◌∙◌}
use Prim.Native.Nat.{ℕ, zero, suc, ◌+◌, ◌*◌, ◌/◌, ◌%◌, ◌^◌, ◌<◌}
use native.Mathlib.Nat.{mod-lt, add-zero}
use native.Mathlib.Omega.{arith}
use lib.Arith.{bin_ind}
use lib.Bits.{bit_xor, differ, xor_step, xor_zero_r, xor_comm, xor_self, xor_lt, xor_shr, xor_mod, xor_block, xor_shifted}
use lib.Dec.{lit<}
use lib.Pow.{pow_pos}
use Rattle.recording_crc16.specs.Remainder.{◌⊕◌}

digit_assoc : (x y z : ℕ) → x < 2 → y < 2 → z < 2 → differ (differ x y) z ≡ differ x (differ y z)
digit_assoc zero y z hx hy hz = refl
digit_assoc (suc zero) zero z hx hy hz = refl
digit_assoc (suc zero) (suc zero) zero hx hy hz = refl
digit_assoc (suc zero) (suc zero) (suc zero) hx hy hz = refl
digit_assoc (suc zero) (suc zero) (suc (suc z)) hx hy hz = absurd (omega arith)
digit_assoc (suc zero) (suc (suc y)) z hx hy hz = absurd (omega arith)
digit_assoc (suc (suc x)) y z hx hy hz = absurd (omega arith)

digit_xor : (x y : ℕ) → x < 2 → y < 2 → bit_xor x y ≡ differ x y
digit_xor zero y hx hy = refl
digit_xor (suc zero) zero hx hy = refl
digit_xor (suc zero) (suc zero) hx hy = refl
digit_xor (suc zero) (suc (suc y)) hx hy = absurd (omega arith)
digit_xor (suc (suc x)) y hx hy = absurd (omega arith)

even_odd : (n : ℕ) → n % 2 < 2
even_odd n = mod-lt n (lit< tt)

low_xor : (a b : ℕ) → bit_xor a b % 2 ≡ differ (a % 2) (b % 2)
low_xor a b = xor_mod a b 1 ∙ digit_xor (a % 2) (b % 2) (even_odd a) (even_odd b)

assoc : (a b c : ℕ) → bit_xor (bit_xor a b) c ≡ bit_xor a (bit_xor b c)
assoc =
    bin_ind (λ (a : ℕ). (b c : ℕ) → bit_xor (bit_xor a b) c ≡ bit_xor a (bit_xor b c)) (λ b c. refl)
    (λ a ih b c.
    xor_step (bit_xor a b) c
    ∙ ap₂ (λ (x y : ℕ). x * 2 + y)
    (ap (λ (x : ℕ). bit_xor x (c / 2)) (xor_shr a b 1) ∙ ih (b / 2) (c / 2) ∙ ap (bit_xor (a / 2)) (sym (xor_shr b c 1)))
    (ap (λ (x : ℕ). differ x (c % 2)) (low_xor a b)
    ∙ digit_assoc (a % 2) (b % 2) (c % 2) (even_odd a) (even_odd b) (even_odd c)
    ∙ ap (differ (a % 2)) (sym (low_xor b c)))
    ∙ sym (xor_step a (bit_xor b c)))

pub ⊕-assoc : (a b c : ℕ) → (a ⊕ b) ⊕ c ≡ a ⊕ (b ⊕ c)
unfolding ◌⊕◌
⊕-assoc = assoc

pub ⊕-comm : (a b : ℕ) → a ⊕ b ≡ b ⊕ a
unfolding ◌⊕◌
⊕-comm = xor_comm

pub ⊕-self : (a : ℕ) → a ⊕ a ≡ 0
unfolding ◌⊕◌
⊕-self = xor_self

pub 0-⊕ : (a : ℕ) → 0 ⊕ a ≡ a
unfolding ◌⊕◌
0-⊕ a = refl

pub ⊕-0 : (a : ℕ) → a ⊕ 0 ≡ a
unfolding ◌⊕◌
⊕-0 = xor_zero_r

pub ⊕-lt : (k a b : ℕ) → a < 2 ^ k → b < 2 ^ k → a ⊕ b < 2 ^ k
unfolding ◌⊕◌
⊕-lt = xor_lt

pub ⊕-shr : (a b k : ℕ) → (a ⊕ b) / 2 ^ k ≡ (a / 2 ^ k) ⊕ (b / 2 ^ k)
unfolding ◌⊕◌
⊕-shr = xor_shr

pub ⊕-mod : (a b k : ℕ) → (a ⊕ b) % 2 ^ k ≡ (a % 2 ^ k) ⊕ (b % 2 ^ k)
unfolding ◌⊕◌
⊕-mod = xor_mod

pub ⊕-shifted : (a k b : ℕ) → b < 2 ^ k → (a * 2 ^ k) ⊕ b ≡ a * 2 ^ k + b
unfolding ◌⊕◌
⊕-shifted = xor_shifted

pub ⊕-shl : (k a b : ℕ) → (a ⊕ b) * 2 ^ k ≡ (a * 2 ^ k) ⊕ (b * 2 ^ k)
unfolding ◌⊕◌
⊕-shl k a b =
    sym (add-zero (bit_xor a b * 2 ^ k)) ∙ sym (xor_block k a b 0 0 (pow_pos k) (pow_pos k))
    ∙ ap₂ bit_xor (add-zero (a * 2 ^ k)) (add-zero (b * 2 ^ k))

pub ⊕-left-comm : (a b c : ℕ) → a ⊕ (b ⊕ c) ≡ b ⊕ (a ⊕ c)
⊕-left-comm a b c = sym (⊕-assoc a b c) ∙ ap (λ (x : ℕ). x ⊕ c) (⊕-comm a b) ∙ ⊕-assoc b a c

pub ⊕-again : (a b : ℕ) → a ⊕ (a ⊕ b) ≡ b
⊕-again a b = sym (⊕-assoc a a b) ∙ ap (λ (x : ℕ). x ⊕ b) (⊕-self a) ∙ 0-⊕ b

-- sums in any order
pub ruleset sums = (⊕-assoc, ⊕-comm, ⊕-left-comm, ⊕-again, ⊕-self, 0-⊕, ⊕-0)

pub ⊕-swap : (a b c d : ℕ) → (a ⊕ b) ⊕ (c ⊕ d) ≡ (a ⊕ c) ⊕ (b ⊕ d)
⊕-swap a b c d = simp sums

-- what adds up to 0 is the same
pub ⊕-same : (a b : ℕ) → a ⊕ b ≡ 0 → a ≡ b
⊕-same a b e = sym (⊕-0 a) ∙ ap (λ (x : ℕ). a ⊕ x) (sym e) ∙ ⊕-again a b

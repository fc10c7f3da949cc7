-- A register times x: linear, within sixteen bits, and 0 only at 0. Assumes nothing.
use mathlib.Core.Path.{◌≡◌, refl, sym, ap, ap₂, ◌∙◌}
use Prim.Native.Nat.{ℕ, zero, suc, ◌+◌, ◌*◌, ◌/◌, ◌%◌, ◌^◌, ◌<◌}
use native.Mathlib.Nat.{mod-lt, zero-add, suc-add, mul-one, pow-suc, mul-le-mul_left}
use native.Mathlib.Omega.{arith}
use lib.Dec.{lit<}
use lib.Pow.{pow_pos, shr_mod}
use Rattle.recording_crc16.specs.Remainder.{◌⊕◌, shift}
use Rattle.recording_crc16.specs.Powers.{times}
use Rattle.recording_crc16.proofs.Xor.{0-⊕, ⊕-lt, ⊕-shr, ⊕-mod, ⊕-shl, ⊕-swap, ⊕-same}

digit : (n : ℕ) → n % 2 < 2
digit n = mod-lt n (lit< tt)

-- a factor that is a bit
scaled : (t u : ℕ) → t < 2 → u < 2 → (t ⊕ u) * 4129 ≡ (t * 4129) ⊕ (u * 4129)
unfolding ◌⊕◌
scaled zero u ht hu = refl
scaled (suc zero) zero ht hu = refl
scaled (suc zero) (suc zero) ht hu = refl
scaled (suc zero) (suc (suc u)) ht hu = absurd (omega arith)
scaled (suc (suc t)) u ht hu = absurd (omega arith)

pub shift-⊕ : (a b : ℕ) → shift (a ⊕ b) ≡ shift a ⊕ shift b
unfolding shift
shift-⊕ a b =
    ap₂ ◌⊕◌
    (ap (λ (x : ℕ). x % 2 * 4129) (⊕-shr a b 15)
    ∙ ap (λ (x : ℕ). x * 4129) (⊕-mod (a / 32768) (b / 32768) 1)
    ∙ scaled (a / 32768 % 2) (b / 32768 % 2) (digit (a / 32768)) (digit (b / 32768)))
    (ap (λ (x : ℕ). x % 65536) (⊕-shl 1 a b) ∙ ⊕-mod (a * 2) (b * 2) 16)
    ∙ ⊕-swap (a / 32768 % 2 * 4129) (b / 32768 % 2 * 4129) (a * 2 % 65536) (b * 2 % 65536)

pub shift_lt : (r : ℕ) → shift r < 65536
unfolding shift
shift_lt r = ⊕-lt 16 (r / 32768 % 2 * 4129) (r * 2 % 65536) (omega arith) (omega arith)

pub shift_small : (r : ℕ) → r < 32768 → shift r ≡ r * 2
unfolding shift
shift_small r h =
    let e : r / 32768 % 2 * 4129 ≡ 0 = omega arith in
    let f : r * 2 % 65536 ≡ r * 2 = omega arith in
    ap₂ ◌⊕◌ e f ∙ 0-⊕ (r * 2)

pub shift_0 : shift 0 ≡ 0
unfolding shift ◌⊕◌
shift_0 = refl

-- 4129 is odd, so what falls out at the top is seen
pub shift_kernel : (d : ℕ) → d < 65536 → shift d ≡ 0 → d ≡ 0
unfolding shift
shift_kernel d h e = go (d / 32768 % 2) refl (digit (d / 32768)) (⊕-same (d / 32768 % 2 * 4129) (d * 2 % 65536) e)
  where
    even : d * 2 % 65536 ≡ d % 32768 * 2
    even = omega arith

    go : (t : ℕ) → d / 32768 % 2 ≡ t → t < 2 → t * 4129 ≡ d * 2 % 65536 → d ≡ 0
    go zero p q f =
        let a : d < 32768 = omega (arith, shr_mod 1 15 h) in
        let b : d * 2 % 65536 ≡ d * 2 = omega arith in
        omega arith
    go (suc zero) p q f = absurd (omega (arith, even))
    go (suc (suc t)) p q f = absurd (omega arith)

-- ---- n times

pub times-⊕ : (n a b : ℕ) → times n (a ⊕ b) ≡ times n a ⊕ times n b
unfolding times
times-⊕ zero a b = refl
times-⊕ (suc n) a b = ap (times n) (shift-⊕ a b) ∙ times-⊕ n (shift a) (shift b)

pub times_add : (m n r : ℕ) → times n (times m r) ≡ times (m + n) r
unfolding times
times_add zero n r = ap (λ (k : ℕ). times k r) (sym (zero-add n))
times_add (suc m) n r = times_add m n (shift r) ∙ ap (λ (k : ℕ). times k r) (sym (suc-add m n))

pub times_lt : (n r : ℕ) → r < 65536 → times n r < 65536
unfolding times
times_lt zero r h = h
times_lt (suc n) r h = times_lt n (shift r) (shift_lt r)

pub times_kernel : (n d : ℕ) → d < 65536 → times n d ≡ 0 → d ≡ 0
unfolding times
times_kernel zero d h e = e
times_kernel (suc n) d h e = shift_kernel d h (times_kernel n (shift d) (shift_lt d) e)

pub times_0 : (n : ℕ) → times n 0 ≡ 0
unfolding times
times_0 zero = refl
times_0 (suc n) = ap (times n) shift_0 ∙ times_0 n

-- while nothing falls out, x is 2
pub times_small : (n r : ℕ) → r * 2 ^ n < 65536 → times n r ≡ r * 2 ^ n
unfolding times
times_small zero r h = sym (mul-one r)
times_small (suc n) r h =
    let p : r * 2 ^ suc n ≡ r * 2 * 2 ^ n = rw pow-suc (omega arith) in
    let k : r * 2 * 2 ^ n < 65536 = rw p at h in
    let q : r < 32768 = omega (arith, mul-le-mul_left (r * 2) (pow_pos n)) in
    ap (times n) (shift_small r q) ∙ times_small n (r * 2) k ∙ sym p

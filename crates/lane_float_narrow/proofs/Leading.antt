-- A whole number converted by the place of its leading digit. Assumes nothing.
use mathlib.Core.Path.{◌≡◌, refl, sym, ap, ap₂, ◌∙◌}
use mathlib.Core.Bool.{Bool, true, false, cond}
use Prim.Native.Nat.{ℕ, ◌+◌, ◌-◌, ◌*◌, ◌/◌, ◌%◌, ◌^◌, ◌<◌, ◌≤◌}
use native.Mathlib.Nat.{le_of_suc-le-suc, zero-lt-suc, add_assoc}
use native.Mathlib.Omega.{arith}
use borrow.Author.Tests.{ltb-true, ltb-false, eqb-true, eqb-false}
use lib.Bits.{bit_or, or_lt, or_add_and, and_le_l, and_le_r}
use lib.Count.{count_leading_zeros, leading_length, leading_unique}
use lib.Dec.{ltb, eqb, lit≤}
use lib.Ieee.{binary32, of_int}
use lib.Ieee.Nearest.{closest}
use Rattle.standard.specs.Convert.{convert_u}
use Rattle.lane_float_pattern.proofs.Chosen.{lifted}
use Rattle.lane_float_pattern.proofs.Numbers.{z_lt, narrow, zero_pattern}
use Rattle.lane_float_narrow.specs.Top.{top_digit}

-- a number whose last bit is set has a leading digit
pub set_first : (n : ℕ) → n < 2 ^ 32 → count_leading_zeros 32 (bit_or n 1) ≤ 31
set_first n h =
    let up : 1 ≤ bit_or n 1 = omega (arith, or_add_and n 1, and_le_l n 1) in
    le_of_suc-le-suc (z_lt (bit_or n 1) up (or_lt 32 n 1 h (lit≤ tt)))

pub top_of_zero : top_digit 0 ≡ 0
unfolding count_leading_zeros
top_of_zero = refl

-- the last bit changes no leading digit
with_one : (n : ℕ) → 0 < n → n < 2 ^ 32 → count_leading_zeros 32 n ≡ count_leading_zeros 32 (bit_or n 1)
with_one n p h =
    let t = leading_length 32 n h in
    let up : n ≤ bit_or n 1 = omega (arith, or_add_and n 1, and_le_r n 1) in
    leading_unique 32 (bit_or n 1) (count_leading_zeros 32 n) t.0 t.1 (or_lt t.0 n 1 t.2 (one n t.0 p t.2)) (omega (arith, t.3, up))
  where
    one : (n m : ℕ) → 0 < n → n < 2 ^ m → 1 < 2 ^ m
    one n m p h = omega (arith, p, h)

-- v / 256, and one more where that is nearer, or as near and even
abbrev rounded : ℕ → ℕ
rounded v = v / 256 + cond (ltb 128 (v % 256 + v / 256 % 2)) 1 0

rounds : (v : ℕ) → rounded v ≡ closest v 256
rounds v = step (v / 256 % 2) (omega arith) ∙ sym (lifted true false v 8 (zero-lt-suc 7))
  where
    step : (p : ℕ) → p < 2 → v / 256 + cond (ltb 128 (v % 256 + p)) 1 0 ≡ (v + (127 + p)) / 256
    step p h = pick (ltb 128 (v % 256 + p)) refl
      where
        pick : (t : Bool) → ltb 128 (v % 256 + p) ≡ t → v / 256 + cond t 1 0 ≡ (v + (127 + p)) / 256
        pick true e = omega (arith, ltb-true 128 (v % 256 + p) e)
        pick false e = omega (arith, ltb-false 128 (v % 256 + p) e)

-- the number moved up until its leading digit is the first of 32
abbrev moved : ℕ → ℕ → ℕ
moved n k = n * 2 ^ (31 - k) % 4294967296

pub told : (n : ℕ) → n < 2 ^ 32 → {k : ℕ} → k ≡ top_digit n
    → cond (eqb n 0) 0 ((126 + k) * 8388608 % 4294967296 + moved n k / 256 + cond (ltb 128 (moved n k % 256 + moved n k / 256 % 2)) 1 0) ≡ convert_u binary32 n
unfolding of_int
told n h {k} e = pick (eqb n 0) refl
  where
    some : eqb n 0 ≡ false → 0 < n
    some q = omega (arith, eqb-false n 0 q)

    back : (z : ℕ) → z < 32 → 31 - (31 - z) ≡ z
    back z h = omega arith

    field : (z : ℕ) → z < 32 → 126 + (31 - z) ≡ 157 - z
    field z h = omega arith

    pick : (t : Bool) → eqb n 0 ≡ t
        → cond t 0 ((126 + k) * 8388608 % 4294967296 + moved n k / 256 + cond (ltb 128 (moved n k % 256 + moved n k / 256 % 2)) 1 0) ≡ convert_u binary32 n
    pick true q = zero_pattern binary32 1 (zero-lt-suc 0) ∙ ap (convert_u binary32) (sym (eqb-true n 0 q))
    pick false q =
        add_assoc _ _ _
        ∙ ap (λ (k : ℕ). (126 + k) * 8388608 % 4294967296 + rounded (moved n k)) (e ∙ ap (λ (z : ℕ). 31 - z) (sym (with_one n (some q) h)))
        ∙ ap₂ (λ (x s : ℕ). x * 8388608 % 4294967296 + rounded (n * 2 ^ s % 4294967296)) (field (count_leading_zeros 32 n) (z_lt n (some q) h))
        (back (count_leading_zeros 32 n) (z_lt n (some q) h))
        ∙ ap (λ (x : ℕ). (157 - count_leading_zeros 32 n) * 8388608 % 4294967296 + x) (rounds (n * 2 ^ count_leading_zeros 32 n % 4294967296))
        ∙ narrow n (some q) h

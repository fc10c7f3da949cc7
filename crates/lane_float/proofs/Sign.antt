-- The sign bit turned over, over both float formats. Assumes nothing.
use mathlib.Core.Path.{◌≡◌, refl, sym, ap, ap₂, ◌∙◌}
use mathlib.Core.Bool.{Bool, true, false, cond}
use Prim.Native.Nat.{ℕ, ◌+◌, ◌-◌, ◌*◌, ◌/◌, ◌%◌, ◌^◌, ◌<◌}
use native.Mathlib.Nat.{mod-lt}
use native.Mathlib.Omega.{arith}
use borrow.Author.Tests.{ltb-true, ltb-false}
use lib.Bits.{bit_xor, xor_block, xor_lt, xor_zero_r}
use lib.Pow.{pow_pos, split}
use lib.Dec.{ltb, lit<}
use lib.Ieee.{Format, binary32, binary64, top}

parts : (k n : ℕ) → bit_xor n (2 ^ k) ≡ bit_xor (n / 2 ^ k) 1 * 2 ^ k + n % 2 ^ k
parts k n =
    ap₂ bit_xor (sym (split n k)) (tidy (2 ^ k))
    ∙ xor_block k (n / 2 ^ k) 1 (n % 2 ^ k) 0 (mod-lt n (pow_pos k)) (pow_pos k)
    ∙ ap (λ (y : ℕ). bit_xor (n / 2 ^ k) 1 * 2 ^ k + y) (xor_zero_r (n % 2 ^ k))
  where
    tidy : (x : ℕ) → x ≡ 1 * x + 0
    tidy x = omega arith

none : (q : ℕ) → q ≡ 0 → bit_xor q 1 ≡ 1
none q e = ap (λ (x : ℕ). bit_xor x 1) e

one : (q : ℕ) → q ≡ 1 → bit_xor q 1 ≡ 0
one q e = ap (λ (x : ℕ). bit_xor x 1) e

pub turned : (f : Format) (n : ℕ) → n < 2 * top f → bit_xor n (top f) ≡ cond (ltb n (top f)) (n + top f) (n - top f)
turned binary32 n h = parts 31 n ∙ decide (ltb n 0x80000000) refl
  where
    decide : (t : Bool) → ltb n 0x80000000 ≡ t → bit_xor (n / 0x80000000) 1 * 0x80000000 + n % 0x80000000 ≡ cond t (n + 0x80000000) (n - 0x80000000)
    decide true e = let k = ltb-true n 0x80000000 e in omega (arith, k, none (n / 0x80000000) (omega (arith, k)))
    decide false e = let k = ltb-false n 0x80000000 e in omega (arith, k, one (n / 0x80000000) (omega (arith, k)))
turned binary64 n h = parts 63 n ∙ decide (ltb n 0x8000000000000000) refl
  where
    decide : (t : Bool) → ltb n 0x8000000000000000 ≡ t
        → bit_xor (n / 0x8000000000000000) 1 * 0x8000000000000000 + n % 0x8000000000000000 ≡ cond t (n + 0x8000000000000000) (n - 0x8000000000000000)
    decide true e = let k = ltb-true n 0x8000000000000000 e in omega (arith, k, none (n / 0x8000000000000000) (omega (arith, k)))
    decide false e = let k = ltb-false n 0x8000000000000000 e in omega (arith, k, one (n / 0x8000000000000000) (omega (arith, k)))

pub turned_fits : (f : Format) (n : ℕ) → n < 2 * top f → bit_xor n (top f) < 2 * top f
turned_fits binary32 n h = xor_lt 32 n 0x80000000 h (lit< tt)
turned_fits binary64 n h = xor_lt 64 n 0x8000000000000000 h (lit< tt)

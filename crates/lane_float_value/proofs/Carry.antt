-- The carry of a NaN's magnitude at 64 bits. Assumes nothing.
use mathlib.Core.Path.{◌≡◌, refl, sym, ap, ◌∙◌}
use mathlib.Core.Bool.{Bool, true, false, cond}
use Prim.Native.Nat.{ℕ, ◌+◌, ◌/◌, ◌%◌, ◌<◌}
use native.Mathlib.Nat.{mod-lt}
use native.Mathlib.Omega.{arith}
use borrow.Author.Tests.{ltb-true, ltb-false}
use lib.Dec.{ltb, lit≤}
use lib.Ieee.{binary64, nan_bits}
use lib.Ieee.Bits.{nan_bits_above}

carried : (m : ℕ) → m < 0x8000000000000000 → (m + 0xFFFFFFFFFFFFF) / 0x8000000000000000 ≡ cond (ltb 0x7FF0000000000000 m) 1 0
carried m h = pick (ltb 0x7FF0000000000000 m) refl
  where
    pick : (t : Bool) → ltb 0x7FF0000000000000 m ≡ t → (m + 0xFFFFFFFFFFFFF) / 0x8000000000000000 ≡ cond t 1 0
    pick true e = omega (arith, ltb-true 0x7FF0000000000000 m e)
    pick false e = omega (arith, ltb-false 0x7FF0000000000000 m e)

pub carries : (n : ℕ) → (n % 0x8000000000000000 + 0xFFFFFFFFFFFFF) / 0x8000000000000000 ≡ cond (nan_bits binary64 n) 1 0
carries n = carried _ (mod-lt n (lit≤ tt)) ∙ ap (λ (t : Bool). cond t 1 0) (sym (nan_bits_above binary64 n))

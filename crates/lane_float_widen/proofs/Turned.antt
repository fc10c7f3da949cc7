-- A whole number turned until its leading digit stands at the end, and turned back with the exponent's field in front. Assumes nothing.
use mathlib.Core.Path.{◌≡◌, sym, ap, ap₂, ◌∙◌, subst}
use mathlib.Core.Bool.{false}
use Prim.Native.Nat.{ℕ, zero, suc, ◌+◌, ◌-◌, ◌*◌, ◌/◌, ◌%◌, ◌^◌, ◌<◌, ◌≤◌}
use native.Mathlib.Nat.{mul_assoc, pow-suc}
use native.Mathlib.Omega.{arith}
use lib.Bits.{bit_or, or_shifted_r}
use lib.Count.{count_leading_zeros, leading_top}
use lib.Dec.{lit≤}
use lib.Pow.{pow-add, high}
use lib.Ieee.{binary64, round, to_bits}
use Rattle.lane_float_pattern.proofs.Numbers.{z_lt, moved_lt, moved_ge, wide}

-- the leading digit of n is all that stays when the others are moved out
one_left : (j n : ℕ) → 2 ^ j ≤ n → n < 2 ^ suc j → n / 2 ^ j ≡ 1
one_left j n h k = ap (λ (x : ℕ). x / 2 ^ j) (apart (2 ^ j) n h) ∙ high 1 j (rest (2 ^ j) n h (subst (λ (x : ℕ). n < x) (pow-suc 2 j) k))
  where
    apart : (p n : ℕ) → p ≤ n → n ≡ 1 * p + (n - p)
    apart p n h = omega arith

    rest : (p n : ℕ) → p ≤ n → n < p * 2 → n - p < p
    rest p n h k = omega arith

-- m has its leading digit at place 52
past_end : (m : ℕ) → 4503599627370496 ≤ m → m < 9007199254740992 → m * 4096 % 18446744073709551616 ≡ (m - 4503599627370496) * 4096
past_end m h k = omega arith

module _ (n : ℕ) (N : 0 < n) (F : n < 2 ^ 32) where
  abbrev z : ℕ
  z = count_leading_zeros 32 n

  abbrev m : ℕ
  m = n * 2 ^ (z + 21)

  pub turned : bit_or (n / 2 ^ (31 - z)) (n * 2 ^ ((64 - (31 - z)) % 64) % 18446744073709551616) ≡ (m - 4503599627370496) * 4096 + 1
  turned = let t = leading_top 32 n N F in ap (λ (k : ℕ). bit_or (n / 2 ^ k) (n * 2 ^ ((64 - k) % 64) % 18446744073709551616)) (place z t.0 t.1)
      ∙ by t.0 t.1 t.2 t.3
    where
      place : (z j : ℕ) → z + suc j ≡ 32 → 31 - z ≡ j
      place z j e = omega arith

      only : (n : ℕ) → 0 < n → n < 2 → n ≡ 1
      only n h k = omega arith

      all : (z : ℕ) → z + 1 ≡ 32 → z ≡ 31
      all z e = omega arith

      count : (z i : ℕ) → z + suc (suc i) ≡ 32 → (64 - suc i) % 64 ≡ z + 21 + 12
      count z i e = omega arith

      by : (j : ℕ) → z + suc j ≡ 32 → 2 ^ j ≤ n → n < 2 ^ suc j → bit_or (n / 2 ^ j) (n * 2 ^ ((64 - j) % 64) % 18446744073709551616)
          ≡ (m - 4503599627370496) * 4096 + 1
      by zero e h k =
          ap (λ (x : ℕ). bit_or (x / 1) (x * 1 % 18446744073709551616)) (only n N k)
          ∙ ap₂ (λ (x y : ℕ). (x * 2 ^ (y + 21) - 4503599627370496) * 4096 + 1) (sym (only n N k)) (sym (all z e))
      by (suc i) e h k =
          ap₂ bit_or (one_left (suc i) n h k)
          (ap (λ (x : ℕ). n * x % 18446744073709551616) (ap (λ (x : ℕ). 2 ^ x) (count z i e) ∙ pow-add 2 (z + 21) 12)
          ∙ ap (λ (x : ℕ). x % 18446744073709551616) (sym (mul_assoc n (2 ^ (z + 21)) 4096))
          ∙ past_end m (moved_ge n N F 21) (moved_lt n N F 21))
          ∙ or_shifted_r (m - 4503599627370496) 12 1 (lit≤ tt)

  pub fits : (l : ℕ) {w : ℕ} → w ≡ (m - 4503599627370496) * 4096 + 1 → w + (1022 - l + (31 - z)) < 18446744073709551616
  fits l e = go m z l (moved_lt n N F 21) e
    where
      go : (m z l : ℕ) {w : ℕ} → m < 9007199254740992 → w ≡ (m - 4503599627370496) * 4096 + 1 → w + (1022 - l + (31 - z)) < 18446744073709551616
      go m z l h e = omega arith

  pub back : (l : ℕ) → l < 150 → {w : ℕ} → w ≡ (m - 4503599627370496) * 4096 + 1 + (1022 - l + (31 - z))
      → bit_or (w / 4096) (w * 4503599627370496 % 18446744073709551616) ≡ to_bits binary64 (round binary64 false n (2 ^ l))
  back l L {w} e =
      ap₂ bit_or (first m z l (moved_ge n N F 21) (moved_lt n N F 21) (z_lt n N F) L e) (last m z l (moved_ge n N F 21) (moved_lt n N F 21) (z_lt n N F) L e)
      ∙ or_shifted_r (1054 - l - z) 52 (m - 4503599627370496) (small m (moved_lt n N F 21))
      ∙ sum m z l (moved_ge n N F 21) (moved_lt n N F 21) (z_lt n N F) L
      ∙ wide n N F l L
    where
      small : (m : ℕ) → m < 9007199254740992 → m - 4503599627370496 < 4503599627370496
      small m h = omega arith

      first : (m z l : ℕ) → 4503599627370496 ≤ m → m < 9007199254740992 → z < 32 → l < 150 → {w : ℕ} → w
          ≡ (m - 4503599627370496) * 4096 + 1 + (1022 - l + (31 - z))
          → w / 4096 ≡ m - 4503599627370496
      first m z l g h u v e = omega arith

      last : (m z l : ℕ) → 4503599627370496 ≤ m → m < 9007199254740992 → z < 32 → l < 150 → {w : ℕ} → w
          ≡ (m - 4503599627370496) * 4096 + 1 + (1022 - l + (31 - z))
          → w * 4503599627370496 % 18446744073709551616 ≡ (1054 - l - z) * 4503599627370496
      last m z l g h u v e = omega arith

      sum : (m z l : ℕ) → 4503599627370496 ≤ m → m < 9007199254740992 → z < 32 → l < 150
          → (1054 - l - z) * 4503599627370496 + (m - 4503599627370496) ≡ (1053 - l - z) * 4503599627370496 % 18446744073709551616 + m % 18446744073709551616
      sum m z l g h u v = omega arith

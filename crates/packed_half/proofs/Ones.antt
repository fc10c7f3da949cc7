-- The ones of packed lanes of 8 bits, by masked sums. That the sums of one lane are its count is one test, which antt computes at each of 256 lanes.
-- Assumes nothing.
use mathlib.Core.Path.{◌≡◌, refl, sym, subst}
use mathlib.Core.Bool.{Bool, true, false, cond}
use mathlib.Core.List.{map}
use Prim.Native.Nat.{ℕ, zero, suc, ◌+◌, ◌-◌, ◌*◌, ◌/◌, ◌^◌, ◌<◌, ◌≤◌}
use native.Mathlib.Nat.{not-suc-le-zero, le_trans}
use native.Mathlib.Omega.{arith}
use borrow.Author.Tests.{eqb-true, eqb-false}
use lib.Dec.{T, eqb, eqb→eq, lit<}
use lib.Pow.{shr_le}
use lib.Bits.{bit_and, and_le_l, and_le_r}
use lib.ListN.{replicate}
use Rattle.standard.specs.Lanes.{digits, joined}
use Rattle.standard.specs.Integer.{ipopcnt}
use Rattle.packed_half.proofs.Packed.{Packed, and, plus, minus, minus_le, first, repeat, shift_masked, packed_lt, packed_map}

-- the counts of each two bits, the mask m picking every second one; and the sums of fields that stand k apart, the mask picking every second field
abbrev pub pairs : ℕ → ℕ → ℕ
pairs m x = x - bit_and (x / 2) m

abbrev pub sums : ℕ → ℕ → ℕ → ℕ
sums k m x = bit_and x m + bit_and (x / 2 ^ k) m

abbrev counted : ℕ → ℕ
counted p = sums 4 0x0f (sums 2 0x33 (pairs 0x55 p))

-- a test that passes at each number below n
abbrev every : (ℕ → Bool) → ℕ → Bool
every t zero = true
every t (suc n) = cond (t n) (every t n) false

both : (b r : Bool) → T (cond b r false) → T b × T r
both true r h = (tt, h)
both false r h = absurd h

every_below : (t : ℕ → Bool) (n : ℕ) → T (every t n) → (p : ℕ) → p < n → T (t p)
every_below t zero h p hp = absurd (not-suc-le-zero hp)
every_below t (suc n) h p hp = here (eqb p n) refl (every_below t n (both (t n) (every t n) h).1 p)
  where
    here : (b : Bool) → eqb p n ≡ b → (p < n → T (t p)) → T (t p)
    here true e rest = subst (λ (k : ℕ). T (t k)) (sym (eqb-true p n e)) (both (t n) (every t n) h).0
    here false e rest = rest (omega (arith, eqb-false p n e))

count_lane : (p : ℕ) → p < 256 → counted p ≡ ipopcnt 8 p
count_lane p hp = eqb→eq (counted p) (ipopcnt 8 p) (every_below (λ k. eqb (counted k) (ipopcnt 8 k)) 256 tt p hp)

sums_are : {w n a x : ℕ} {f : ℕ → ℕ → ℕ} → Packed w n a a x f → (k m : ℕ) → m * 2 ^ k < 2 ^ w → m + m < 2 ^ w
    → Packed w n a a (sums k (joined w (replicate n m)) x) (λ p q. sums k m (f p q))
sums_are {w} {f = f} h k m hk hm =
    let single : m < 2 ^ w = omega arith in
    plus (and h (repeat m single)) (shift_masked h (repeat m single) k (λ p q hp hq. hk))
    (λ p q hp hq. omega (arith, and_le_r (f p q) m, and_le_r (f p q / 2 ^ k) m))

-- the digit d in each of n lanes of 8 bits
abbrev pub each : ℕ → ℕ → ℕ
each n d = joined 8 (replicate n d)

module _ (n a : ℕ) (ha : a < 2 ^ (8 * n)) where
  odd_bits : Packed 8 n a a (bit_and (a / 2) (each n 0x55)) (λ p q. bit_and (p / 2) 0x55)
  odd_bits = shift_masked (first ha) (repeat 0x55 (lit< tt)) 1 (λ p q hp hq. lit< tt)

  odd_le : (p : ℕ) → bit_and (p / 2) 0x55 ≤ p
  odd_le p = le_trans (and_le_l (p / 2) 0x55) (shr_le p 1)

  pub pairs_fit : bit_and (a / 2) (each n 0x55) ≤ a
  pairs_fit = minus_le (first ha) odd_bits (λ p q hp hq. odd_le p)

  two_counts : Packed 8 n a a (pairs (each n 0x55) a) (λ p q. pairs 0x55 p)
  two_counts = minus (first ha) odd_bits (λ p q hp hq. odd_le p)

  four_counts : Packed 8 n a a (sums 2 (each n 0x33) (pairs (each n 0x55) a)) (λ p q. sums 2 0x33 (pairs 0x55 p))
  four_counts = sums_are two_counts 2 0x33 (lit< tt) (lit< tt)

  counts : Packed 8 n a a (sums 4 (each n 0x0f) (sums 2 (each n 0x33) (pairs (each n 0x55) a))) (λ p q. counted p)
  counts = sums_are four_counts 4 0x0f (lit< tt) (lit< tt)

  pub four_counts_fit : sums 2 (each n 0x33) (pairs (each n 0x55) a) < 2 ^ (8 * n)
  four_counts_fit = packed_lt four_counts

  pub counts_fit : sums 4 (each n 0x0f) (sums 2 (each n 0x33) (pairs (each n 0x55) a)) < 2 ^ (8 * n)
  counts_fit = packed_lt counts

  pub counts_are : sums 4 (each n 0x0f) (sums 2 (each n 0x33) (pairs (each n 0x55) a)) ≡ joined 8 (map (ipopcnt 8) (digits 8 n a))
  counts_are = packed_map counts (ipopcnt 8) (λ p q hp hq. count_lane p hp)

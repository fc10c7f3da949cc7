-- Eight numbers as the lanes of a half: sums without a carry, bounds, and what the top bits of all lanes tell. Assumes nothing.
use mathlib.Core.Path.{◌≡◌, refl, sym, ap, ap₂, subst, ◌∙◌}
use mathlib.Core.List.{List, ◌∷◌}
use Prim.Native.Nat.{ℕ, zero, suc, ◌+◌, ◌-◌, ◌*◌, ◌%◌, ◌^◌, ◌<◌, ◌≤◌}
use native.Mathlib.Nat.{add-zero, zero-add, mul_comm, add_comm, mod-eq_of_lt}
use native.Mathlib.Omega.{arith}
use lib.Dec.{lit<}
use lib.ListN.{length}
use lib.Bits.{bit_and, and_block, and_lt, and_le_r, and_zero_l}
use Rattle.standard.specs.Lanes.{digits, joined, zip}
use Rattle.standard.proofs.Digits.{Below, digits_joined, joined_lt}
use Rattle.finder_columns.specs.Columns.{row, eight}

row_same : (f g : ℕ → ℕ) (n k : ℕ) → ((r : ℕ) → r < k + n → f r ≡ g r) → row f k n ≡ row g k n
unfolding row
row_same f g zero k h = refl
row_same f g (suc n) k h = ap₂ (λ (d : ℕ) (ds : List ℕ). d ∷ ds) (h k (omega arith)) (row_same f g n (k + 1) (λ r hr. h r (omega arith)))

pub eight_same : (f g : ℕ → ℕ) → ((r : ℕ) → r < 8 → f r ≡ g r) → eight f ≡ eight g
unfolding eight
eight_same f g h = ap (joined 8) (row_same f g 8 0 h)

row_below : (f : ℕ → ℕ) (n k : ℕ) → ((r : ℕ) → f r < 256) → Below 256 (row f k n)
unfolding row
row_below f zero k h = tt
row_below f (suc n) k h = (h k, row_below f n (k + 1) h)

length_row : (f : ℕ → ℕ) (n k : ℕ) → length (row f k n) ≡ n
unfolding row
length_row f zero k = refl
length_row f (suc n) k = ap suc (length_row f n (k + 1))

pub row_lt : (f : ℕ → ℕ) (n k : ℕ) → ((r : ℕ) → f r < 256) → joined 8 (row f k n) < 2 ^ (8 * n)
row_lt f n k h = subst (λ (l : ℕ). joined 8 (row f k n) < 2 ^ (8 * l)) (length_row f n k) (joined_lt 8 (row f k n) (row_below f n k h))

pub eight_lt : (f : ℕ → ℕ) → ((r : ℕ) → f r < 256) → eight f < 2 ^ 64
unfolding eight
eight_lt f h = row_lt f 8 0 h

-- the lanes of a half that holds eight numbers
pub eight_digits : (f : ℕ → ℕ) → ((r : ℕ) → f r < 256) → digits 8 8 (eight f) ≡ row f 0 8
unfolding eight
eight_digits f h = ap (λ (n : ℕ). digits 8 n (joined 8 (row f 0 8))) (sym (length_row f 8 0)) ∙ digits_joined 8 (row f 0 8) (row_below f 8 0 h)

pub zip_row : (f : ℕ → ℕ → ℕ) (g h : ℕ → ℕ) (n k : ℕ) → zip f (row g k n) (row h k n) ≡ row (λ r. f (g r) (h r)) k n
unfolding row
zip_row f g h zero k = refl
zip_row f g h (suc n) k = ap (λ (l : List ℕ). f (g k) (h k) ∷ l) (zip_row f g h n (k + 1))

row_plus : (f g : ℕ → ℕ) (n k : ℕ) → joined 8 (row f k n) + joined 8 (row g k n) ≡ joined 8 (row (λ r. f r + g r) k n)
unfolding row
row_plus f g zero k = refl
row_plus f g (suc n) k = omega (arith, row_plus f g n (k + 1))

pub eight_plus : (f g : ℕ → ℕ) → eight f + eight g ≡ eight (λ r. f r + g r)
unfolding eight
eight_plus f g = row_plus f g 8 0

-- one number in every lane
pub eight_each : (c : ℕ) → eight (λ r. c) ≡ c * 0x0101010101010101
unfolding eight row
eight_each c = omega arith

-- two halves added modulo 2^64, where no lane reaches its end
pub eight_wraps : {a b : ℕ} (f g : ℕ → ℕ) → a ≡ eight f → b ≡ eight g → ((r : ℕ) → f r + g r < 256) → (a + b) % 2 ^ 64 ≡ eight (λ r. f r + g r)
eight_wraps f g ea eb h = ap (λ (n : ℕ). n % 2 ^ 64) (ap₂ (λ (x y : ℕ). x + y) ea eb ∙ eight_plus f g) ∙ mod-eq_of_lt (eight_lt (λ r. f r + g r) h)

turned : (d j : ℕ) → d + 2 ^ 8 * j ≡ j * 2 ^ 8 + d
turned d j = add_comm d (2 ^ 8 * j) ∙ ap (λ (k : ℕ). k + d) (mul_comm (2 ^ 8) j)

abbrev tops : ℕ → ℕ → ℕ
tops k n = joined 8 (row (λ r. 128) k n)

-- the top bits of the first lane and of the others
module _ (g : ℕ → ℕ) (n k : ℕ) (h : (r : ℕ) → g r < 256) where
  top_parts : bit_and (128 + 2 ^ 8 * tops (k + 1) n) (g k + 2 ^ 8 * joined 8 (row g (k + 1) n))
      ≡ bit_and (tops (k + 1) n) (joined 8 (row g (k + 1) n)) * 2 ^ 8 + bit_and 128 (g k)
  top_parts =
      ap₂ bit_and (turned 128 (tops (k + 1) n)) (turned (g k) (joined 8 (row g (k + 1) n)))
      ∙ and_block 8 (tops (k + 1) n) (joined 8 (row g (k + 1) n)) 128 (g k) (lit< tt) (h k)

  top_small : bit_and 128 (g k) < 256
  top_small = and_lt 8 128 (g k) (lit< tt) (h k)

-- where all are set, every lane is 128 or more
row_tops : (g : ℕ → ℕ) (n k : ℕ) → ((r : ℕ) → g r < 256) → bit_and (tops k n) (joined 8 (row g k n)) ≡ tops k n → (r : ℕ) → r < n → 128 ≤ g (k + r)
unfolding row
row_tops g zero k h e r hr = absurd (omega arith)
row_tops g (suc n) k h e r hr = by (λ e r hr. row_tops g n (k + 1) h e r hr) r hr
  where
    both : bit_and (tops (k + 1) n) (joined 8 (row g (k + 1) n)) * 2 ^ 8 + bit_and 128 (g k) ≡ 128 + 2 ^ 8 * tops (k + 1) n
    both = sym (top_parts g n k h) ∙ e

    by : (bit_and (tops (k + 1) n) (joined 8 (row g (k + 1) n)) ≡ tops (k + 1) n → (r : ℕ) → r < n → 128 ≤ g (k + 1 + r))
        → (r : ℕ) → r < suc n → 128 ≤ g (k + r)
    by later zero hr = rw (add-zero k) (omega (arith, and_le_r 128 (g k), top_small g n k h, both))
    by later (suc r) hr =
        let next : k + suc r ≡ k + 1 + r = omega arith in
        rw next (later (omega (arith, top_small g n k h, both)) r (omega arith))

pub eight_tops : (g : ℕ → ℕ) → ((r : ℕ) → g r < 256) → bit_and 0x8080808080808080 (eight g) ≡ 0x8080808080808080 → (r : ℕ) → r < 8 → 128 ≤ g r
unfolding eight row
eight_tops g h e r hr = rw (zero-add r) at (row_tops g 8 0 h e r hr)

-- and the other way round
top_set : (d : ℕ) → 128 ≤ d → d < 256 → bit_and 128 d ≡ 128
top_set d h hd =
    let parts : d ≡ 1 * 2 ^ 7 + (d - 128) = omega arith in
    ap (bit_and 128) parts ∙ and_block 7 1 1 0 (d - 128) (lit< tt) (omega arith) ∙ ap (λ (n : ℕ). 128 + n) (and_zero_l (d - 128))

row_set : (g : ℕ → ℕ) (n k : ℕ) → ((r : ℕ) → g r < 256) → ((r : ℕ) → r < n → 128 ≤ g (k + r)) → bit_and (tops k n) (joined 8 (row g k n)) ≡ tops k n
unfolding row
row_set g zero k h all = refl
row_set g (suc n) k h all =
    top_parts g n k h
    ∙ ap₂ (λ (a b : ℕ). a * 2 ^ 8 + b)
    (row_set g n (k + 1) h (λ r hr. let next : k + suc r ≡ k + 1 + r = omega arith in rw next at (all (suc r) (omega arith))))
    (top_set (g k) (rw (add-zero k) at (all 0 (omega arith))) (h k))
    ∙ sym (turned 128 (tops (k + 1) n))

pub eight_set : (g : ℕ → ℕ) → ((r : ℕ) → g r < 256) → ((r : ℕ) → r < 8 → 128 ≤ g r) → bit_and 0x8080808080808080 (eight g) ≡ 0x8080808080808080
unfolding eight row
eight_set g h all = row_set g 8 0 h (λ r hr. rw (zero-add r) (all r hr))

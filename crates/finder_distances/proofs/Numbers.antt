-- Forty bits as a word of 32 and a byte, and the windows that stand in them. Assumes nothing.
use Prim.Native.Nat.{ℕ, ◌+◌, ◌*◌, ◌-◌, ◌/◌, ◌%◌, ◌^◌, ◌<◌, ◌≤◌}
use mathlib.Core.Path.{◌≡◌, sym, ap, ap₂, ◌∙◌}
use mathlib.Core.List.{List}
use native.Mathlib.Nat.{add-zero, mul_assoc, add-mul, add_assoc, mod-lt}
use native.Mathlib.Omega.{arith}
use lib.Pow.{high, low, split, pow-add, pow_pos, mod-pow-add, shr_lt}
use borrow.Author.Count.{below_more}
use lib.ListN.{length, take, drop, get_or, set}
use lib.Seq.{get_or-set_same, get_or-set_other}
use Rattle.finder_windows.specs.Definition.{binary, bits, marker_bits, window, distance}
use Rattle.finder_distances.specs.Windows.{after}
use Rattle.finder_windows.proofs.Bits.{binary_window, word_more, window_inside}

module _ (h n s : ℕ) (small : n < 256) (few : s < 8) where
  abbrev q : ℕ
  q = n / 2 ^ (8 - s)

  q_lt : q < 2 ^ s
  q_lt = let all : s + (8 - s) ≡ 8 = omega arith in shr_lt s (8 - s) (rw all small)

  -- a number with q in its s lowest places
  kept : (x : ℕ) → x < 2 ^ s → (h * 2 ^ s + x) % 2 ^ 32 ≡ (h % 2 ^ (32 - s)) * 2 ^ s + x
  kept x l =
      let all : 32 ≡ 32 - s + s = omega arith in
      ap (λ (k : ℕ). (h * 2 ^ s + x) % 2 ^ k) all ∙ mod-pow-add (h * 2 ^ s + x) (32 - s) s ∙ rw (high h s l, low h s l)

  over : (h * 256 + n) / 2 ^ (8 - s) ≡ h * 2 ^ s + q
  over =
      let all : 8 ≡ s + (8 - s) = omega arith in
      let whole : 256 ≡ 2 ^ s * 2 ^ (8 - s) = ap (λ (k : ℕ). 2 ^ k) all ∙ pow-add 2 s (8 - s) in
      let parts : h * 256 + n ≡ (h * 2 ^ s + q) * 2 ^ (8 - s) + n % 2 ^ (8 - s) =
      ap₂ (λ (a b : ℕ). a + b) (ap (λ (k : ℕ). h * k) whole ∙ sym (mul_assoc h (2 ^ s) (2 ^ (8 - s)))) (sym (split n (8 - s)))
      ∙ sym (add_assoc (h * 2 ^ s * 2 ^ (8 - s)) (q * 2 ^ (8 - s)) (n % 2 ^ (8 - s)))
      ∙ ap (λ (k : ℕ). k + n % 2 ^ (8 - s)) (sym (add-mul (h * 2 ^ s) q (2 ^ (8 - s))))
      in
      ap (λ (k : ℕ). k / 2 ^ (8 - s)) parts ∙ high (h * 2 ^ s + q) (8 - s) (mod-lt n (pow_pos (8 - s)))

  -- what goes out of the word at its top, and into it from the byte
  pub shifted : (h * 2 ^ s) % 2 ^ 32 + n / 2 ^ (8 - s) ≡ (h * 256 + n) / 2 ^ (8 - s) % 2 ^ 32
  shifted =
      let none : (h * 2 ^ s) % 2 ^ 32 ≡ (h % 2 ^ (32 - s)) * 2 ^ s =
      ap (λ (k : ℕ). k % 2 ^ 32) (sym (add-zero (h * 2 ^ s))) ∙ kept 0 (pow_pos s) ∙ add-zero _
      in
      ap (λ (k : ℕ). k + q) none ∙ sym (ap (λ (k : ℕ). k % 2 ^ 32) over ∙ kept q q_lt)

  pub shifted_lt : (h * 2 ^ s) % 2 ^ 32 + n / 2 ^ (8 - s) < 2 ^ 32
  shifted_lt = rw shifted (mod-lt ((h * 256 + n) / 2 ^ (8 - s)) (pow_pos 32))

-- the window that stands s places below the top of the forty bits from a byte on
pub inside : (bs : List ℕ) (at h s m : ℕ) → at + 5 ≤ length bs → s < 8 → get_or bs (at + 4) 0 < 256 → binary 32 h ≡ bits (take 4 (drop at bs))
    → distance (binary 32 ((h * 256 + get_or bs (at + 4) 0) / 2 ^ (8 - s) % 2 ^ 32)) (marker_bits m) ≡ distance (window (bits bs) (8 * at + s)) (marker_bits m)
inside bs at h s m room few byte e =
    ap (λ (l : List ℕ). distance l (marker_bits m))
    (sym (binary_window 40 s (8 - s) (h * 256 + get_or bs (at + 4) 0) (omega arith))
    ∙ ap (λ (l : List ℕ). window l s) (word_more bs at 4 h (omega arith) byte e) ∙ window_inside bs at 5 s room (omega arith))

-- one entry more
pub set_more : (P : ℕ → ℕ → Type 0) (xs : List ℕ) (n v : ℕ) → n < length xs → P n v → ((i : ℕ) → i < n → P i (get_or xs i 0))
    → (i : ℕ) → i < n + 1 → P i (get_or (set xs n v) i 0)
set_more P xs n v room here laid =
    below_more _ n (λ i h. rw (get_or-set_other xs n i v 0 (λ e. omega arith)) (laid i h)) (rw (get_or-set_same xs n v 0 room) here)

-- the entry j of row k
pub at_row : (k j : ℕ) → j < 32 → after (32 * k + j) ≡ 8 * j + k
at_row k j h =
    let low : (32 * k + j) % 32 ≡ j = omega arith in
    let high : (32 * k + j) / 32 ≡ k = omega arith in
    rw (low, high)

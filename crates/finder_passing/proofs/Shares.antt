-- The distance of a window is the sum of the ones of what differs in each of the five bytes over which it stands. Assumes nothing.
use Rattle.std.proofs.Common.{◌≡◌, ℕ, ◌+◌, ◌-◌, ◌*◌, ◌/◌, ◌%◌, ◌^◌, ◌<◌, ◌≤◌, List, [], ◌∷◌, ◌++◌, length, get_or, sym, refl, ap, ◌∙◌, ap₂}
use Rattle.std.proofs.Common.{append_assoc, append-nil, lt_of_lt_of_le, add-zero, mod-lt, mod-eq_of_lt, mul_assoc, div-add-mod', div-one, arith}
use Rattle.std.proofs.Common.{lit<, pow_pos, pow_mono, pow-add, shr-shr, shr_lt}
use lib.Arith.{digits_lt}
use lib.Pow.{shl-shr, high_ones}
use lib.Bits.{bit_and, bit_xor, and_high, xor_block, xor_lt, xor_shr, xor_mod, and_shr, and_mod}
use lib.Count.{ones, ones_cat}
use Rattle.finder_windows.specs.Definition.{binary, bits, marker_bits, window, distance}
use Rattle.finder_windows.proofs.Bits.{binary_push, binary_window, window_inside, spelt_all}
use Rattle.finder_windows.proofs.Distance.{distance_words}
use Rattle.finder_columns.specs.Columns.{piece, differing}

-- the ones of a number of five bytes, byte by byte
ones_low : (x : ℕ) → ones x ≡ ones (x / 2 ^ 8) + ones (x % 256)
ones_low x = ap ones (sym (div-add-mod' x 256)) ∙ ones_cat 8 (x / 256) (x % 256) (mod-lt x (lit< tt))

five_ones : (x : ℕ) → x < 2 ^ 40 → ones x
    ≡ ones (x / 2 ^ 32 % 256) + ones (x / 2 ^ 24 % 256) + ones (x / 2 ^ 16 % 256) + ones (x / 2 ^ 8 % 256) + ones (x / 2 ^ 0 % 256)
five_ones x h =
    let a = ones_low x in
    let b = ones_low (x / 2 ^ 8) in
    let c = rw (shr-shr x 8 8) at (ones_low (x / 2 ^ 8 / 2 ^ 8)) in
    let d = rw (shr-shr x 16 8) at (ones_low (x / 2 ^ 16 / 2 ^ 8)) in
    let top = ap ones (mod-eq_of_lt (shr_lt 8 32 h)) in
    rw (div-one x) (omega (arith, a, b, c, d, top, ap ones (shr-shr x 8 8), ap ones (shr-shr x 16 8), ap ones (shr-shr x 24 8)))

-- what a marker has in a byte, by the place of the window
piece_is : (n q r k : ℕ) → r < 8 → 8 * q + k ≡ 32 → n * 2 ^ (8 - r) / 2 ^ k % 256 ≡ piece n q r
unfolding piece
piece_is n q r k hr e =
    let place : r + 32 - 8 * q ≡ r + k = omega arith in
    let whole : 8 ≡ (8 - r) + r = omega arith in
    sym (ap (λ (i : ℕ). n * 256 / 2 ^ i % 256) place ∙ ap (λ (d : ℕ). d % 256) (sym (shr-shr (n * 256) r k)
    ∙ ap (λ (d : ℕ). d / 2 ^ k) (ap (λ (d : ℕ). d / 2 ^ r)
    (ap (λ (d : ℕ). n * 2 ^ d) whole ∙ ap (λ (d : ℕ). n * d) (pow-add 2 (8 - r) r) ∙ sym (mul_assoc n (2 ^ (8 - r)) (2 ^ r)))
    ∙ shl-shr (n * 2 ^ (8 - r)) r)))

module _ (a b c d e m r : ℕ) (ha : a < 256) (hb : b < 256) (hc : c < 256) (hd : d < 256) (he : e < 256) (hm : m < 2 ^ 32) (hr : r < 8) where
  -- the number of the five bytes, and how far the window ends above its end
  number : ℕ
  number = (((a * 256 + b) * 256 + c) * 256 + d) * 256 + e

  j : ℕ
  j = 8 - r

  five : bits (a ∷ b ∷ c ∷ d ∷ e ∷ []) ≡ binary 40 number
  unfolding bits number
  five =
      sym (binary_push 32 (((a * 256 + b) * 256 + c) * 256 + d) e he
      ∙ ap (λ (l : List ℕ). l ++ binary 8 e) (binary_push 24 ((a * 256 + b) * 256 + c) d hd
      ∙ ap (λ (l : List ℕ). l ++ binary 8 d) (binary_push 16 (a * 256 + b) c hc
      ∙ ap (λ (l : List ℕ). l ++ binary 8 c) (binary_push 8 a b hb)))
      ∙ simp (append_assoc, append-nil))

  seen : ℕ
  seen = number / 2 ^ j % 2 ^ 32

  apart : distance (window (bits (a ∷ b ∷ c ∷ d ∷ e ∷ [])) r) (marker_bits m) ≡ ones (bit_xor seen m)
  unfolding seen j
  apart =
      let all : 40 ≡ r + (32 + (8 - r)) = omega arith in
      ap (λ (l : List ℕ). distance l (marker_bits m)) (ap (λ (l : List ℕ). window l r) five ∙ binary_window 40 r (8 - r) number all)
      ∙ distance_words (number / 2 ^ (8 - r) % 2 ^ 32) m (mod-lt (number / 2 ^ (8 - r)) (pow_pos 32)) hm

  -- what differs, in its place among the 40 bits
  placed : ℕ
  placed = bit_xor (bit_and number (4294967295 * 2 ^ j)) (m * 2 ^ j)

  placed_is : placed ≡ bit_xor seen m * 2 ^ j + 0
  unfolding placed seen
  placed_is =
      ap₂ bit_xor (ap (bit_and number) (sym (high_ones 32 j)) ∙ and_high number 32 j ∙ sym (add-zero (number / 2 ^ j % 2 ^ 32 * 2 ^ j)))
      (sym (add-zero (m * 2 ^ j)))
      ∙ xor_block j (number / 2 ^ j % 2 ^ 32) m 0 0 (pow_pos j) (pow_pos j)

  placed_lt : placed < 2 ^ 40
  unfolding j seen
  placed_lt =
      rw placed_is (lt_of_lt_of_le (digits_lt (xor_lt 32 seen m (mod-lt (number / 2 ^ j) (pow_pos 32)) hm) (pow_pos j))
      (rw (pow-add 2 32 j) at (pow_mono {i = 32 + (8 - r)} {j = 40} (omega arith))))

  byte_of : (q k x : ℕ) → 8 * q + k ≡ 32 → number / 2 ^ k % 256 ≡ x → placed / 2 ^ k % 256 ≡ differing m q r x
  unfolding placed j differing
  byte_of q k x e h =
      ap (λ (n : ℕ). n % 256) (xor_shr (bit_and number (4294967295 * 2 ^ j)) (m * 2 ^ j) k
      ∙ ap (λ (n : ℕ). bit_xor n (m * 2 ^ j / 2 ^ k)) (and_shr number (4294967295 * 2 ^ j) k))
      ∙ xor_mod (bit_and (number / 2 ^ k) (4294967295 * 2 ^ j / 2 ^ k)) (m * 2 ^ j / 2 ^ k) 8
      ∙ ap₂ bit_xor (and_mod (number / 2 ^ k) (4294967295 * 2 ^ j / 2 ^ k) 8 ∙ ap₂ bit_and h (piece_is 4294967295 q r k hr e)) (piece_is m q r k hr e)

  five_shares : distance (window (bits (a ∷ b ∷ c ∷ d ∷ e ∷ [])) r) (marker_bits m)
      ≡ ones (differing m 0 r a) + ones (differing m 1 r b) + ones (differing m 2 r c) + ones (differing m 3 r d) + ones (differing m 4 r e)
  unfolding number ones
  five_shares =
      apart ∙ sym (add-zero (ones (bit_xor seen m))) ∙ sym (ones_cat j (bit_xor seen m) 0 (pow_pos j)) ∙ ap ones (sym placed_is) ∙ five_ones placed placed_lt
      ∙ rw (
        byte_of 0 32 a refl (omega arith),
        byte_of 1 24 b refl (omega arith),
        byte_of 2 16 c refl (omega arith),
        byte_of 3 8 d refl
            (omega arith),
        byte_of 4 0 e refl (omega arith),
      )

-- the five bytes from a byte of a buffer on
pub shares : (bs : List ℕ) (at r m : ℕ) → at + 5 ≤ length bs → r < 8 → m < 2 ^ 32 → get_or bs (at + 0) 0 < 256 → get_or bs (at + 1) 0 < 256
    → get_or bs (at + 2) 0 < 256
    → get_or bs (at + 3) 0 < 256 → get_or bs (at + 4) 0 < 256
    → distance (window (bits bs) (8 * at + r)) (marker_bits m)
    ≡ ones (differing m 0 r (get_or bs (at + 0) 0)) + ones (differing m 1 r (get_or bs (at + 1) 0)) + ones (differing m 2 r (get_or bs (at + 2) 0)) + ones
    (differing m 3 r (get_or bs (at + 3) 0))
    + ones (differing m 4 r (get_or bs (at + 4) 0))
shares bs at r m h hr hm h0 h1 h2 h3 h4 =
    ap (λ (l : List ℕ). distance l (marker_bits m)) (sym (window_inside bs at 5 r h (omega arith))
    ∙ ap (λ (l : List ℕ). window (bits l) r) (spelt_all bs at 5 h))
    ∙ five_shares (get_or bs (at + 0) 0) (get_or bs (at + 1) 0) (get_or bs (at + 2) 0) (get_or bs (at + 3) 0) (get_or bs (at + 4) 0) m r h0 h1 h2 h3 h4 hm hr

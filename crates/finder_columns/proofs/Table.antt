-- The entries of the columns: a byte's count is that of its two nibbles, and a table is made entry by entry. Assumes nothing.
use mathlib.Core.Path.{◌≡◌, sym, ap, ap₂, ◌∙◌}
use mathlib.Core.List.{List}
use Prim.Native.Nat.{ℕ, zero, suc, ◌+◌, ◌-◌, ◌*◌, ◌/◌, ◌%◌, ◌^◌, ◌<◌, ◌≤◌}
use native.Mathlib.Nat.{add-zero, add_assoc, mod-lt, mod-eq_of_lt, div-add-mod'}
use native.Mathlib.Numerals.{add-one}
use native.Mathlib.Omega.{arith}
use borrow.Author.Count.{below_more}
use lib.Dec.{lit<}
use lib.Pow.{pow_pos, shr_lt}
use lib.Bits.{bit_and, bit_xor, and_mask, and_high, and_shr, and_mod, and_lt, xor_shr, xor_mod, xor_lt}
use lib.Count.{ones, ones_cat, ones-le}
use lib.ListN.{length, get_or, set, replicate}
use lib.Seq.{get_or-set_same, get_or-set_other}
use Rattle.standard.specs.Lanes.{joined, zip}
use Rattle.standard.specs.Integer.{ipopcnt}
use Rattle.lane_integer.proofs.Product.{counts}
use Rattle.packed_half.specs.Half.{half_unary}
use Rattle.packed_half.proofs.Packed.{Packed, first, second, repeat, and, xor, mapped}
use Rattle.finder_columns.specs.Columns.{row, eight, piece, differing, slack, entry}
use Rattle.finder_columns.proofs.Eight.{eight_same, eight_each, eight_lt, eight_digits, eight_plus, zip_row, row_lt}

piece_lt : (m q r : ℕ) → piece m q r < 256
unfolding piece
piece_lt m q r = mod-lt (m * 256 / 2 ^ (r + 32 - 8 * q)) (lit< tt)

pub differing_lt : (m q r x : ℕ) → x < 256 → differing m q r x < 256
unfolding differing
differing_lt m q r x h = xor_lt 8 (bit_and x (piece 4294967295 q r)) (piece m q r) (and_lt 8 x (piece 4294967295 q r) h (piece_lt 4294967295 q r))
    (piece_lt m q r)

-- pieces, pushed one after the other below those that stand, from the last to the first
pub pieces_lt : (m q k n : ℕ) → joined 8 (row (piece m q) k n) < 2 ^ (8 * n)
pieces_lt m q k n = row_lt (piece m q) n k (piece_lt m q)

pub pieces_more : (m q i : ℕ) → q ≤ 4 → i < 8
    → joined 8 (row (piece m q) (8 - i) i) * 256 + m * 256 / 2 ^ (39 - i - 8 * q) % 256 ≡ joined 8 (row (piece m q) (8 - (i + 1)) (i + 1))
unfolding row piece
pieces_more m q i hq hi =
    let here : 8 - suc i ≡ 7 - i = omega arith in
    let next : 7 - i + 1 ≡ 8 - i = omega arith in
    let place : 7 - i + 32 - 8 * q ≡ 39 - i - 8 * q = omega arith in
    rw (add-one i, here, next, place) (omega arith)

-- what differs in a byte, in its high and in its low nibble
module _ (m q r h l : ℕ) (hh : h < 16) (hl : l < 16) where
  high_same : differing m q r (16 * h + l) / 2 ^ 4 ≡ differing m q r (16 * h) / 2 ^ 4
  unfolding differing
  high_same =
      let here : (16 * h + l) / 16 ≡ 16 * h / 16 = omega arith in
      shifted (16 * h + l) ∙ ap (λ (x : ℕ). bit_xor (bit_and x (piece 4294967295 q r / 2 ^ 4)) (piece m q r / 2 ^ 4)) here ∙ sym (shifted (16 * h))
    where
      shifted : (x : ℕ) → bit_xor (bit_and x (piece 4294967295 q r)) (piece m q r) / 2 ^ 4
          ≡ bit_xor (bit_and (x / 2 ^ 4) (piece 4294967295 q r / 2 ^ 4)) (piece m q r / 2 ^ 4)
      shifted x =
          xor_shr (bit_and x (piece 4294967295 q r)) (piece m q r) 4 ∙ ap (λ (y : ℕ). bit_xor y (piece m q r / 2 ^ 4)) (and_shr x (piece 4294967295 q r) 4)

  low_same : differing m q r (16 * h + l) % 2 ^ 4 ≡ differing m q r l % 2 ^ 4
  unfolding differing
  low_same =
      let here : (16 * h + l) % 16 ≡ l % 16 = omega arith in
      cut (16 * h + l) ∙ ap (λ (x : ℕ). bit_xor (bit_and x (piece 4294967295 q r % 2 ^ 4)) (piece m q r % 2 ^ 4)) here ∙ sym (cut l)
    where
      cut : (x : ℕ) → bit_xor (bit_and x (piece 4294967295 q r)) (piece m q r) % 2 ^ 4
          ≡ bit_xor (bit_and (x % 2 ^ 4) (piece 4294967295 q r % 2 ^ 4)) (piece m q r % 2 ^ 4)
      cut x =
          xor_mod (bit_and x (piece 4294967295 q r)) (piece m q r) 4 ∙ ap (λ (y : ℕ). bit_xor y (piece m q r % 2 ^ 4)) (and_mod x (piece 4294967295 q r) 4)

  nibbles : ones (bit_and (differing m q r (16 * h)) 0xf0) + ones (bit_and (differing m q r l) 0x0f) ≡ ones (differing m q r (16 * h + l))
  unfolding ones
  nibbles =
      let d = differing m q r (16 * h) in
      let small : d / 2 ^ 4 < 2 ^ 4 = shr_lt 4 4 (differing_lt m q r (16 * h) (omega arith)) in
      let above : ones (bit_and d 0xf0) ≡ ones (d / 2 ^ 4) =
      ap ones (and_high d 4 4 ∙ ap (λ (n : ℕ). n * 2 ^ 4) (mod-eq_of_lt small) ∙ sym (add-zero (d / 2 ^ 4 * 2 ^ 4))) ∙ ones_cat 4 (d / 2 ^ 4) 0 (pow_pos 4)
      ∙ add-zero (ones (d / 2 ^ 4)) in
      ap₂ (λ (a b : ℕ). a + b) (above ∙ ap ones (sym high_same)) (ap ones (and_mask (differing m q r l) 4 ∙ sym low_same))
      ∙ sym (ap ones (sym (div-add-mod' (differing m q r (16 * h + l)) 16))
      ∙ ones_cat 4 (differing m q r (16 * h + l) / 2 ^ 4) (differing m q r (16 * h + l) % 2 ^ 4) (mod-lt (differing m q r (16 * h + l)) (pow_pos 4)))

-- the packed count
module _ (m q x kept : ℕ) (hx : x < 256) (hk : kept < 256) where
  abbrev seen : ℕ
  seen = eight (piece 4294967295 q)

  abbrev wanted : ℕ
  wanted = eight (piece m q)

  cut : ℕ → ℕ → ℕ
  cut p w = bit_and (bit_xor (bit_and x p) w) kept

  small : (p w : ℕ) → p < 2 ^ 8 → w < 2 ^ 8 → cut p w < 2 ^ 8
  unfolding cut
  small p w hp hw = and_lt 8 (bit_xor (bit_and x p) w) kept (xor_lt 8 (bit_and x p) w (and_lt 8 x p hx hp) hw) hk

  packed : Packed 8 8 seen wanted (bit_and (bit_xor (bit_and (x * 0x0101010101010101) seen) wanted) (kept * 0x0101010101010101)) cut
  unfolding cut
  packed =
      let each : (d : ℕ) → joined 8 (replicate 8 d) ≡ d * 0x0101010101010101 = λ d. omega arith in
      let sn = eight_lt (piece 4294967295 q) (piece_lt 4294967295 q) in
      let wn = eight_lt (piece m q) (piece_lt m q) in
      and (xor (and (rw (each x) at (repeat {w = 8} {n = 8} {a = seen} {b = wanted} x hx)) (first sn)) (second wn))
      (rw (each kept) at (repeat {w = 8} {n = 8} {a = seen} {b = wanted} kept hk))

  count_lt : (a : ℕ) → a < 2 ^ 8 → ipopcnt 8 a < 2 ^ 8
  count_lt a h = omega (arith, counts 8 a h, ones-le 8 a h)

  counted_is : half_unary 8 (ipopcnt 8) (bit_and (bit_xor (bit_and (x * 0x0101010101010101) seen) wanted) (kept * 0x0101010101010101))
      ≡ eight (λ r. ones (bit_and (differing m q r x) kept))
  unfolding half_unary cut eight differing
  counted_is =
      (mapped packed (ipopcnt 8) (λ p w hp hw. count_lt (cut p w) (small p w hp hw))).value
      ∙ ap (joined 8) (ap₂ (zip (λ p w. ipopcnt 8 (cut p w))) (eight_digits (piece 4294967295 q) (piece_lt 4294967295 q))
      (eight_digits (piece m q) (piece_lt m q))
      ∙ zip_row (λ p w. ipopcnt 8 (cut p w)) (piece 4294967295 q) (piece m q) 8 0)
      ∙ eight_same (λ r. ipopcnt 8 (cut (piece 4294967295 q r) (piece m q r))) (λ r. ones (bit_and (differing m q r x) kept))
      (λ r hr. sym (counts 8 (cut (piece 4294967295 q r) (piece m q r))
      (small (piece 4294967295 q r) (piece m q r) (piece_lt 4294967295 q r) (piece_lt m q r))))

-- an entry
slack_le : (t q : ℕ) → slack t q ≤ 127
unfolding slack
slack_le t zero = omega arith
slack_le t (suc q) = omega arith

pub no_slack : (t q : ℕ) → 1 ≤ q → 0 ≡ eight (λ r. slack t q)
unfolding slack
no_slack t zero h = absurd (omega arith)
no_slack t (suc q) h = sym (eight_each 0)

pub entry_lt : (m t q x : ℕ) → x < 256 → entry m t q x < 2 ^ 64
unfolding entry
entry_lt m t q x h = eight_lt (λ r. slack t q + ones (differing m q r x))
    (λ r. omega (arith, slack_le t q, ones-le 8 (differing m q r x) (differing_lt m q r x h)))

pub entry_is : (m t q h l : ℕ) {s w a u v : ℕ} → h < 16 → l < 16 → s ≡ eight (piece 4294967295 q) → w ≡ eight (piece m q) → a ≡ eight (λ r. slack t q)
    → u ≡ half_unary 8 (ipopcnt 8) (bit_and (bit_xor (bit_and (16 * h * 0x0101010101010101) s) w) 0xf0f0f0f0f0f0f0f0)
    → v ≡ half_unary 8 (ipopcnt 8) (bit_and (bit_xor (bit_and (l * 0x0101010101010101) s) w) 0x0f0f0f0f0f0f0f0f)
    → a + u + v ≡ entry m t q (16 * h + l)
unfolding entry
entry_is m t q h l hh hl es ew ea eu ev =
    ap₂ (λ (x y : ℕ). x + y) (ap₂ (λ (x y : ℕ). x + y) ea (eu ∙ rw (es, ew) (counted_is m q (16 * h) 0xf0 (omega arith) (lit< tt)))
    ∙ eight_plus (λ r. slack t q) high)
    (ev ∙ rw (es, ew) (counted_is m q l 0x0f (omega arith) (lit< tt)))
    ∙ eight_plus (λ r. slack t q + high r) (λ r. ones (bit_and (differing m q r l) 0x0f))
    ∙ eight_same _ _ (λ r hr. add_assoc (slack t q) (high r) (ones (bit_and (differing m q r l) 0x0f))
    ∙ ap (λ (n : ℕ). slack t q + n) (nibbles m q r h l hh hl))
  where
    high : ℕ → ℕ
    high r = ones (bit_and (differing m q r (16 * h)) 0xf0)

-- an entry more
pub set_more : (f : ℕ → ℕ) (i : ℕ) (table : List ℕ) {v : ℕ} → i < length table → v ≡ f i → ((j : ℕ) → j < i → get_or table j 0 ≡ f j)
    → (j : ℕ) → j < i + 1 → get_or (set table i v) j 0 ≡ f j
set_more f i table {v} h e old =
    below_more (λ j. get_or (set table i v) j 0 ≡ f j) i (λ k hk. get_or-set_other table i k v 0 (λ same. omega arith) ∙ old k hk)
    (get_or-set_same table i v 0 h ∙ e)

pub entry_at : (m t q x j : ℕ) → j ≡ 256 * q + x → x < 256 → entry m t (j / 256) (j % 256) ≡ entry m t q x
entry_at m t q x j place h =
    let column : j / 256 ≡ q = omega arith in
    let value : j % 256 ≡ x = omega arith in
    ap₂ (entry m t) column value

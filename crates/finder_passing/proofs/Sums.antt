-- The sum of five entries, modulo 2^64, has the distances of eight windows, and what its top bits tell. Assumes nothing.
use Rattle.std.proofs.Common.{◌≡◌, ℕ, ◌+◌, ◌-◌, ◌*◌, ◌%◌, ◌^◌, ◌<◌, ◌≤◌, Bool, true, false, ltb, List, length, get_or, sym, refl, ap, ◌∙◌, arith}
use Rattle.std.proofs.Common.{ltb-false, ltb-true}
use lib.Bits.{bit_and, and_le_l}
use lib.Count.{ones, ones-le}
use Rattle.finder_windows.specs.Definition.{bits, marker_bits}
use Rattle.finder_windows.proofs.Distance.{window_le}
use Rattle.finder_columns.specs.Columns.{eight, differing, slack, entry, Columns}
use Rattle.finder_passing.specs.Next.{away, Far}
use Rattle.finder_columns.proofs.Eight.{eight_same, eight_wraps, eight_tops, eight_set}
use Rattle.finder_passing.proofs.Shares.{shares}
use Rattle.finder_columns.proofs.Table.{differing_lt, entry_at}

abbrev pub wrapped : ℕ → ℕ → ℕ
wrapped a b = (a + b) % 2 ^ 64

module _ (bs table : List ℕ) (at m t : ℕ) (fits : at + 5 ≤ length bs) (hm : m < 2 ^ 32) (made : Columns m t table) where
  abbrev b : ℕ → ℕ
  b q = get_or bs (at + q) 0

  -- an entry of the table
  found : (q : ℕ) → q ≤ 4 → b q < 256 → get_or table (256 * q + b q) 0 ≡ eight (λ r. slack t q + ones (differing m q r (b q)))
  unfolding entry
  found q hq h = made.1 (256 * q + b q) (omega arith) ∙ entry_at m t q (b q) (256 * q + b q) refl h

  small : (q r : ℕ) → b q < 256 → ones (differing m q r (b q)) ≤ 8
  small q r h = ones-le 8 (differing m q r (b q)) (differing_lt m q r (b q) h)

  pub sum_is : b 0 < 256 → b 1 < 256 → b 2 < 256 → b 3 < 256 → b 4 < 256 → {u v w x y : ℕ} → u ≡ get_or table (0 + b 0) 0 → v ≡ get_or table (256 + b 1) 0 → w
      ≡ get_or table (512 + b 2) 0
      → x ≡ get_or table (768 + b 3) 0 → y ≡ get_or table (1024 + b 4) 0 → wrapped (wrapped (wrapped (wrapped u v) w) x) y
      ≡ eight (λ r. 127 - t + away bs m (8 * at + r))
  unfolding slack
  sum_is h0 h1 h2 h3 h4 eu ev ew ex ey =
      eight_wraps _ _ (eight_wraps _ _ (eight_wraps _ _
      (eight_wraps _ _ (eu ∙ found 0 (omega arith) h0) (ev ∙ found 1 (omega arith) h1) (λ r. omega (arith, small 0 r h0, small 1 r h1)))
      (ew ∙ found 2 (omega arith) h2) (λ r. omega (arith, small 0 r h0, small 1 r h1, small 2 r h2)))
      (ex ∙ found 3 (omega arith) h3) (λ r. omega (arith, small 0 r h0, small 1 r h1, small 2 r h2, small 3 r h3)))
      (ey ∙ found 4 (omega arith) h4) (λ r. omega (arith, small 0 r h0, small 1 r h1, small 2 r h2, small 3 r h3, small 4 r h4))
      ∙ eight_same _ _ (λ r hr. omega (arith, shares bs at r m fits hr hm h0 h1 h2 h3 h4))

-- a lane has its top bit where its window is too far
lane_lt : (t a : ℕ) → a ≤ 32 → 127 - t + a < 256
lane_lt t a h = omega arith

above : (t a : ℕ) → a ≤ 32 → 128 ≤ 127 - t + a → t < a
above t a h k = omega arith

-- a position in a byte
placed : (at p : ℕ) → 8 * at ≤ p → p < 8 * (at + 1) → (8 * at + (p - 8 * at) ≡ p) × (p - 8 * at < 8)
placed at p h k = (omega arith, omega arith)

module _ (bs : List ℕ) (m t at : ℕ) where
  abbrev lane : ℕ → ℕ
  lane r = 127 - t + away bs m (8 * at + r)

  lanes_lt : (r : ℕ) → lane r < 256
  lanes_lt r = lane_lt t (away bs m (8 * at + r)) (window_le (bits bs) (marker_bits m) (8 * at + r))

  top_far : {d : ℕ} → d ≡ eight lane → bit_and 0x8080808080808080 d ≡ 0x8080808080808080 → Far bs m t at (at + 1)
  top_far e h p from to =
      let in-byte = placed at p from to in
      let top = eight_tops lane lanes_lt (sym (ap (bit_and 0x8080808080808080) e) ∙ h) (p - 8 * at) in-byte.1 in
      rw in-byte.0 at (above t (away bs m (8 * at + (p - 8 * at))) (window_le (bits bs) (marker_bits m) (8 * at + (p - 8 * at))) top)

  far_top : {d : ℕ} → d ≡ eight lane → Far bs m t at (at + 1) → bit_and 0x8080808080808080 d ≡ 0x8080808080808080
  far_top e far =
      ap (bit_and 0x8080808080808080) e
      ∙ eight_set lane lanes_lt (λ r hr. omega (arith, far (8 * at + r) (omega arith) (omega arith), window_le (bits bs) (marker_bits m) (8 * at + r)))

-- bytes one after the other
pub far_none : (bs : List ℕ) (m t at : ℕ) → Far bs m t at (at + 0)
far_none bs m t at p from to = absurd (omega arith)

pub far_more : (bs : List ℕ) (m t from at to : ℕ) → Far bs m t from at → Far bs m t at to → Far bs m t from to
far_more bs m t from at to before after p hp hq = by (ltb p (8 * at)) refl
  where
    by : (b : Bool) → ltb p (8 * at) ≡ b → t < away bs m p
    by true e = before p hp (ltb-true p (8 * at) e)
    by false e = after p (ltb-false p (8 * at) e) hq

pub far_part : (bs : List ℕ) (m t from to at end : ℕ) → from ≤ at → end ≤ to → Far bs m t from to → Far bs m t at end
far_part bs m t from to at end h k far p hp hq = far p (omega arith) (omega arith)

-- the top bits that are left after i bytes and one more
module _ (bs : List ℕ) (m t at i tops : ℕ) {d : ℕ} (left : tops ≤ 0x8080808080808080) (e : d ≡ eight (λ r. 127 - t + away bs m (8 * (at + i) + r))) where
  pub more_far : (tops ≡ 0x8080808080808080 → Far bs m t at (at + i)) → bit_and tops d ≡ 0x8080808080808080 → Far bs m t at (at + (i + 1))
  more_far old h =
      let full : tops ≡ 0x8080808080808080 = omega (arith, and_le_l tops d) in
      let next : at + i + 1 ≡ at + (i + 1) = omega arith in
      rw (← next) (far_more bs m t at (at + i) (at + i + 1) (old full) (top_far bs m t (at + i) e (rw full at h)))

  pub far_more_tops : (Far bs m t at (at + i) → tops ≡ 0x8080808080808080) → Far bs m t at (at + (i + 1)) → bit_and tops d ≡ 0x8080808080808080
  far_more_tops old far =
      ap (λ (n : ℕ). bit_and n d) (old (far_part bs m t at (at + (i + 1)) at (at + i) (omega arith) (omega arith) far))
      ∙ far_top bs m t (at + i) e (far_part bs m t at (at + (i + 1)) (at + i) (at + i + 1) (omega arith) (omega arith) far)

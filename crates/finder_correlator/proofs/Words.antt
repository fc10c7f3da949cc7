-- Distances over bytes and over words: as they stand in a buffer, and as the lanes of a vector hold them. Assumes nothing.
use mathlib.Core.Path.{◌≡◌, refl, sym, ap, ap₂, subst, ◌∙◌}
use mathlib.Core.List.{List, [], ◌∷◌, ◌++◌, append-nil, map}
use Prim.Native.Nat.{ℕ, ◌+◌, ◌*◌, ◌/◌, ◌%◌, ◌^◌, ◌<◌, ◌≤◌}
use native.Mathlib.Nat.{add-zero, add_comm, mul_comm, mod-lt, mod-eq_of_lt}
use native.Mathlib.Omega.{arith}
use lib.Dec.{lit<}
use lib.Bits.{bit_xor, xor_block, xor_lt}
use lib.Count.{ones, ones_cat}
use lib.ListN.{length, take, drop, replicate}
use lib.Seq.{drop_at, take_at}
use Rattle.standard.specs.Lanes.{joined, zip}
use Rattle.standard.specs.Integer.{ipopcnt}
use Rattle.standard.proofs.Digits.{Below, joined_lt}
use Rattle.lane_integer.proofs.Product.{counts}
use Rattle.finder_windows.specs.Definition.{binary, bits, marker_bits, window, distance}
use Rattle.finder_windows.proofs.Bits.{length_binary, length_bits, bits_append, bits_from, binary_split, binary_same, spelt, spelt_from}
use Rattle.finder_windows.proofs.Distance.{distance_append, distance_cut, distance_ones, distance_words}
use Rattle.finder_correlator.specs.Correlator.{sent}

word : (w m : ℕ) → w < 2 ^ 32 → m < 2 ^ 32 → ipopcnt 32 (bit_xor w m) ≡ distance (binary 32 w) (marker_bits m)
word w m hw hm = sym (distance_words w m hw hm ∙ counts 32 (bit_xor w m) (xor_lt 32 w m hw hm))

pub words : (m : ℕ) → m < 2 ^ 32 → (ws : List ℕ) → Below (2 ^ 32) ws
    → map (ipopcnt 32) (zip bit_xor ws (replicate (length ws) m)) ≡ map (λ w. distance (binary 32 w) (marker_bits m)) ws
words m hm [] b = refl
words m hm (w ∷ ws) b = ap₂ (λ (d : ℕ) (ds : List ℕ). d ∷ ds) (word w m b.0 hm) (words m hm ws b.1)

-- two lists in two parts
parts : (xs ys us vs : List ℕ) → length xs ≡ length ys → distance (xs ++ us) (ys ++ vs) ≡ distance xs ys + distance us vs
parts xs ys us vs e =
    distance_append xs us (ys ++ vs) ∙ ap₂ (λ (a b : ℕ). a + b) (distance_cut xs ys vs (omega arith)) (ap (distance us) (drop_at ys vs (length xs) (sym e)))

turned : (d j : ℕ) → d + 2 ^ 8 * j ≡ j * 2 ^ 8 + d
turned d j = add_comm d (2 ^ 8 * j) ∙ ap (λ (k : ℕ). k + d) (mul_comm (2 ^ 8) j)

-- bytes one after the other, top bit first, differ as the numbers do that have them as digits, the first one lowest
bytes : (xs ys : List ℕ) → Below 256 xs → Below 256 ys → length xs ≡ length ys → distance (bits xs) (bits ys) ≡ ones (bit_xor (joined 8 xs) (joined 8 ys))
unfolding bits distance ones
bytes [] [] b c e = refl
bytes [] (y ∷ ys) b c e = absurd (omega arith)
bytes (x ∷ xs) [] b c e = absurd (omega arith)
bytes (x ∷ xs) (y ∷ ys) b c e =
    parts (binary 8 x) (binary 8 y) (bits xs) (bits ys) (length_binary 8 x ∙ sym (length_binary 8 y))
    ∙ ap₂ (λ (d r : ℕ). d + r) (distance_ones 8 x y ∙ ap₂ (λ (i j : ℕ). ones (bit_xor i j)) (mod-eq_of_lt b.0) (mod-eq_of_lt c.0))
    (bytes xs ys b.1 c.1 (omega arith))
    ∙ add_comm (ones (bit_xor x y)) (ones (bit_xor (joined 8 xs) (joined 8 ys)))
    ∙ sym (ap ones (ap₂ bit_xor (turned x (joined 8 xs)) (turned y (joined 8 ys)) ∙ xor_block 8 (joined 8 xs) (joined 8 ys) x y b.0 c.0)
    ∙ ones_cat 8 (bit_xor (joined 8 xs) (joined 8 ys)) (bit_xor x y) (xor_lt 8 x y b.0 c.0))

-- four bytes as a lane holds them, lowest first, against four bytes of a marker held likewise
pub as_held : (xs ys : List ℕ) → length xs ≡ 4 → length ys ≡ 4 → Below 256 xs → Below 256 ys
    → distance (binary 32 (joined 8 xs)) (marker_bits (joined 8 ys)) ≡ distance (bits xs) (bits ys)
as_held xs ys e f b c = distance_words (joined 8 xs) (joined 8 ys) (held xs e b) (held ys f c) ∙ sym (bytes xs ys b c (e ∙ sym f))
  where
    held : (zs : List ℕ) → length zs ≡ 4 → Below 256 zs → joined 8 zs < 2 ^ 32
    held zs e b = subst (λ (n : ℕ). joined 8 zs < 2 ^ (8 * n)) e (joined_lt 8 zs b)

-- the bytes of a marker, as a buffer has them
pub marker_bytes : (m : ℕ) → bits (sent m) ≡ marker_bits m
unfolding bits
marker_bytes m =
    ap₂ (λ (x y : List ℕ). x ++ y) (cut (m / 2 ^ 24)) (ap₂ (λ (x y : List ℕ). x ++ y) (cut (m / 2 ^ 16)) (ap₂ (λ (x y : List ℕ). x ++ y) (cut (m / 2 ^ 8))
    (append-nil (binary 8 (m % 256)) ∙ cut m)))
    ∙ sym (binary_split 8 24 m
    ∙ ap (λ (l : List ℕ). binary 8 (m / 2 ^ 24) ++ l) (binary_split 8 16 m ∙ ap (λ (l : List ℕ). binary 8 (m / 2 ^ 16) ++ l) (binary_split 8 8 m)))
  where
    cut : (x : ℕ) → binary 8 (x % 256) ≡ binary 8 x
    cut x = binary_same 8 (x % 256) x (mod-eq_of_lt (mod-lt x (lit< tt)))

-- a window at a byte is its four bytes
pub window_bytes : (bs : List ℕ) (at i : ℕ) → at + i + 4 ≤ length bs → window (bits bs) (8 * (at + i)) ≡ bits (spelt bs at i 4 [])
window_bytes bs at i h =
    ap (take 32) (rw (add-zero (8 * (at + i))) at (bits_from bs (at + i) 0 (omega arith)) ∙ ap bits (spelt_from bs at i 4 h) ∙ bits_append here rest)
    ∙ take_at (bits here) (bits rest) 32 (length_bits here)
  where
    here : List ℕ
    here = spelt bs at i 4 []

    rest : List ℕ
    rest = drop (at + i + 4) bs

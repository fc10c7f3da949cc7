-- The sums of neighbouring counts are the counts of the wide lanes. Assumes nothing.
use mathlib.Core.Path.{◌≡◌, refl, sym, ap, ap₂, ◌∙◌}
use mathlib.Core.List.{List, [], ◌∷◌, map}
use Prim.Native.Nat.{ℕ, zero, suc, ◌+◌, ◌/◌, ◌%◌, ◌^◌, ◌<◌, ◌≤◌}
use native.Mathlib.Nat.{zero-add, add_assoc, suc-add, add_comm, div-one, mod-eq_of_lt}
use native.Mathlib.Numerals.{add-one}
use native.Mathlib.Omega.{arith}
use lib.Dec.{lit≤}
use lib.Pow.{shr-shr, field, mod-mod-pow}
use lib.Bits.{bit_xor, xor_shr, xor_mod}
use lib.ListN.{length}
use Rattle.standard.specs.Lanes.{digits, joined, lanes, zip, pairwise, unary, splat}
use Rattle.standard.specs.Integer.{ipopcnt, ixor, iadd, extend_u}
use Rattle.standard.specs.Vector.{extadd_pairwise}
use Rattle.standard.proofs.Digits.{Below, lanes_joined, joined_lt}
use Rattle.standard.proofs.Bitwise.{xor_bits}
use Rattle.finder_correlator.specs.Correlator.{counted}

-- the standard's count, shut
count : ℕ → ℕ → ℕ
count n a = ipopcnt n a

-- the ones of the low a bits and of those above them
popcnt_split : (a b x : ℕ) → ipopcnt (a + b) x ≡ ipopcnt a x + ipopcnt b (x / 2 ^ a)
popcnt_split zero b x = ap (λ (n : ℕ). ipopcnt n x) (zero-add b) ∙ sym (zero-add (ipopcnt b (x / 1)) ∙ ap (ipopcnt b) (div-one x))
popcnt_split (suc a) b x =
    ap (λ (n : ℕ). ipopcnt n x) (suc-add a b)
    ∙ ap (λ (k : ℕ). x % 2 + k) (popcnt_split a b (x / 2)
    ∙ ap (λ (q : ℕ). ipopcnt a (x / 2) + ipopcnt b q) (shr-shr x 1 a ∙ ap (λ (k : ℕ). x / 2 ^ k) (add_comm 1 a ∙ add-one a)))
    ∙ sym (add_assoc (x % 2) (ipopcnt a (x / 2)) (ipopcnt b (x / 2 ^ suc a)))

-- no bit above the n lowest counts
popcnt_low : (n x : ℕ) → ipopcnt n (x % 2 ^ n) ≡ ipopcnt n x
popcnt_low zero x = refl
popcnt_low (suc n) x =
    let all : suc n ≡ n + 1 = sym (add-one n) in
    ap₂ (λ (d r : ℕ). d + ipopcnt n r) (ap (λ (k : ℕ). x % 2 ^ k % 2) all ∙ mod-mod-pow x n 1) (ap (λ (k : ℕ). x % 2 ^ k / 2) all ∙ field x n 1)
    ∙ ap (λ (k : ℕ). x % 2 + k) (popcnt_low n (x / 2))

popcnt_le : (n x : ℕ) → ipopcnt n x ≤ n
popcnt_le zero x = omega arith
popcnt_le (suc n) x = omega (arith, popcnt_le n (x / 2))

abbrev times4 : ℕ → ℕ
times4 zero = zero
times4 (suc n) = suc (suc (suc (suc (times4 n))))

abbrev plus : ℕ → ℕ → ℕ
plus a b = a + b

low : (x : ℕ) → count 8 (x % 2 ^ 8) ≡ count 8 x
unfolding count
low x = popcnt_low 8 x

part : (n x : ℕ) → count (8 + n) x ≡ count 8 x + count n (x / 2 ^ 8)
unfolding count
part n x = popcnt_split 8 n x

whole : (x : ℕ) → count 32 (x % 2 ^ 32) ≡ count 32 x
unfolding count
whole x = popcnt_low 32 x

-- four bytes
quad : (x : ℕ) → count 8 (x % 2 ^ 8) + count 8 (x / 2 ^ 8 % 2 ^ 8) + (count 8 (x / 2 ^ 8 / 2 ^ 8 % 2 ^ 8) + count 8 (x / 2 ^ 8 / 2 ^ 8 / 2 ^ 8 % 2 ^ 8))
    ≡ count 32 (x % 2 ^ 32)
quad x =
    let a = x / 2 ^ 8 in
    let b = a / 2 ^ 8 in
    let c = b / 2 ^ 8 in
    ap₂ plus (ap₂ plus (low x) (low a)) (ap₂ plus (low b) (low c)) ∙ add_assoc (count 8 x) (count 8 a) (count 8 b + count 8 c)
    ∙ sym (whole x ∙ part 24 x ∙ ap (plus (count 8 x)) (part 16 a ∙ ap (plus (count 8 a)) (part 8 b)))

quads : (n x : ℕ) → pairwise plus (pairwise plus (map (count 8) (digits 8 (times4 n) x))) ≡ map (count 32) (digits 32 n x)
quads zero x = refl
quads (suc n) x =
    ap₂ (λ (d : ℕ) (ds : List ℕ). d ∷ ds) (quad x)
    (quads n (x / 2 ^ 8 / 2 ^ 8 / 2 ^ 8 / 2 ^ 8)
    ∙ ap (λ (q : ℕ). map (count 32) (digits 32 n q))
    (ap (λ (q : ℕ). q / 2 ^ 8 / 2 ^ 8) (shr-shr x 8 8) ∙ ap (λ (q : ℕ). q / 2 ^ 8) (shr-shr x 16 8) ∙ shr-shr x 24 8))

-- sums that do not reach the lane's end are the plain ones
plain : (v w c : ℕ) → c + c ≤ 2 ^ w → (xs : List ℕ) → Below c xs → pairwise (iadd w) (map (extend_u v w) xs) ≡ pairwise plus xs
plain v w c h [] b = refl
plain v w c h (x ∷ []) b = refl
plain v w c h (x ∷ y ∷ zs) b =
    ap₂ (λ (d : ℕ) (ds : List ℕ). d ∷ ds) (mod-eq_of_lt (omega (arith, b.0, b.1.0))) (plain v w c h zs b.1.1)

sums_below : (c : ℕ) (xs : List ℕ) → Below c xs → Below (c + c) (pairwise plus xs)
sums_below c [] b = tt
sums_below c (x ∷ []) b = tt
sums_below c (x ∷ y ∷ zs) b = (omega (arith, b.0, b.1.0), sums_below c zs b.1.1)

wider : (c d : ℕ) → c ≤ d → (xs : List ℕ) → Below c xs → Below d xs
wider c d h [] b = tt
wider c d h (x ∷ xs) b = (omega (arith, b.0), wider c d h xs b.1)

-- the instructions, over lanes that are small
pairs_8 : (xs : List ℕ) → length xs ≡ 16 → Below 9 xs → extadd_pairwise extend_u 8 (joined 8 xs) ≡ joined 16 (pairwise plus xs)
unfolding extadd_pairwise
pairs_8 xs e b =
    ap (λ (ds : List ℕ). joined 16 (pairwise (iadd 16) (map (extend_u 8 16) ds))) (lanes_joined 8 refl xs e (wider 9 256 (lit≤ tt) xs b))
    ∙ ap (joined 16) (plain 8 16 9 (lit≤ tt) xs b)

pairs_16 : (xs : List ℕ) → length xs ≡ 8 → Below 18 xs → extadd_pairwise extend_u 16 (joined 16 xs) ≡ joined 32 (pairwise plus xs)
unfolding extadd_pairwise
pairs_16 xs e b =
    ap (λ (ds : List ℕ). joined 32 (pairwise (iadd 32) (map (extend_u 16 32) ds))) (lanes_joined 16 refl xs e (wider 18 65536 (lit≤ tt) xs b))
    ∙ ap (joined 32) (plain 16 32 18 (lit≤ tt) xs b)

module _ (p : ℕ → ℕ) (small : (a : ℕ) → p a < 9) where
  counts_below : (xs : List ℕ) → Below 9 (map p xs)
  counts_below [] = tt
  counts_below (x ∷ xs) = (small x, counts_below xs)

  sums : (x : ℕ) → lanes 32 (extadd_pairwise extend_u 16 (extadd_pairwise extend_u 8 (unary 8 p x))) ≡ pairwise plus (pairwise plus (map p (lanes 8 x)))
  unfolding unary
  sums x =
      let bytes = map p (lanes 8 x) in
      let b1 = counts_below (lanes 8 x) in
      let b2 = sums_below 9 bytes b1 in
      let b3 = sums_below 18 (pairwise plus bytes) b2 in
      ap (lanes 32) (ap (extadd_pairwise extend_u 16) (pairs_8 bytes refl b1) ∙ pairs_16 (pairwise plus bytes) refl b2)
      ∙ lanes_joined 32 refl (pairwise plus (pairwise plus bytes)) refl (wider 36 (2 ^ 32) (lit≤ tt) (pairwise plus (pairwise plus bytes)) b3)

count_small : (a : ℕ) → count 8 a < 9
unfolding count
count_small a = omega (arith, popcnt_le 8 a)

shut_lanes : (x : ℕ) → lanes 32 (extadd_pairwise extend_u 16 (extadd_pairwise extend_u 8 (unary 8 (count 8) x))) ≡ map (count 32) (lanes 32 x)
shut_lanes x = sums (count 8) count_small x ∙ quads 4 x

pub counted_lanes : (x : ℕ) → lanes 32 (counted x) ≡ map (ipopcnt 32) (lanes 32 x)
unfolding count
counted_lanes x = shut_lanes x

-- v128.xor, lane by lane
xor_digits : (w n a b : ℕ) → digits w n (bit_xor a b) ≡ zip bit_xor (digits w n a) (digits w n b)
xor_digits w zero a b = refl
xor_digits w (suc n) a b =
    ap₂ (λ (d : ℕ) (ds : List ℕ). d ∷ ds) (xor_mod a b w) (ap (digits w n) (xor_shr a b w) ∙ xor_digits w n (a / 2 ^ w) (b / 2 ^ w))

pub xor_lanes : (a b : ℕ) → a < 2 ^ 128 → b < 2 ^ 128 → lanes 32 (ixor 128 a b) ≡ zip bit_xor (lanes 32 a) (lanes 32 b)
xor_lanes a b ha hb = ap (lanes 32) (sym (xor_bits 128 a b ha hb)) ∙ xor_digits 32 4 a b

pub splat_lanes : (m : ℕ) → m < 2 ^ 32 → lanes 32 (splat 32 m) ≡ m ∷ m ∷ m ∷ m ∷ []
unfolding splat
splat_lanes m h = lanes_joined 32 refl (m ∷ m ∷ m ∷ m ∷ []) refl (h, (h, (h, (h, tt))))

pub splat_lt : (m : ℕ) → m < 2 ^ 32 → splat 32 m < 2 ^ 128
unfolding splat
splat_lt m h = joined_lt 32 (m ∷ m ∷ m ∷ m ∷ []) (h, (h, (h, (h, tt))))

-- The distance of two lists in parts, and that of two numbers' digits: the count of ones of their exclusive-or. Assumes nothing.
use mathlib.Core.Path.{◌≡◌, refl, sym, ap, ap₂, ◌∙◌}
use mathlib.Core.Bool.{Bool, true, false, cond}
use mathlib.Core.List.{List, [], ◌∷◌, ◌++◌}
use Prim.Native.Nat.{ℕ, zero, suc, ◌+◌, ◌*◌, ◌/◌, ◌%◌, ◌^◌, ◌<◌, ◌≤◌}
use native.Mathlib.Nat.{zero-add, add_assoc, add_comm, mod-eq_of_lt, mod-lt, mod-one, zero-lt-suc}
use native.Mathlib.Numerals.{add-one}
use native.Mathlib.Omega.{arith}
use lib.Dec.{eqb}
use lib.ListN.{length, take, drop, length-take}
use lib.Pow.{pow_pos, mod-pow-add}
use lib.Bits.{bit_xor, xor_block, xor_lt}
use lib.Count.{ones, ones_cat}
use Rattle.finder_windows.specs.Definition.{binary, bits, marker_bits, window, distance}
use Rattle.finder_windows.proofs.Bits.{window_inside}

distance_nil : (xs : List ℕ) → distance xs [] ≡ 0
unfolding distance
distance_nil [] = refl
distance_nil (x ∷ xs) = refl

-- a list in two parts, against any list
pub distance_append : (xs ys zs : List ℕ) → distance (xs ++ ys) zs ≡ distance xs zs + distance ys (drop (length xs) zs)
unfolding distance
distance_append [] ys zs = sym (zero-add (distance ys zs))
distance_append (x ∷ xs) ys [] = sym (zero-add (distance ys []) ∙ distance_nil ys)
distance_append (x ∷ xs) ys (z ∷ zs) =
    ap (λ (d : ℕ). cond (eqb x z) 0 1 + d) (distance_append xs ys zs)
    ∙ sym (add_assoc (cond (eqb x z) 0 1) (distance xs zs) (distance ys (drop (length xs) zs)))

-- what stands past the other list's end does not count
pub distance_cut : (xs ys zs : List ℕ) → length xs ≤ length ys → distance xs (ys ++ zs) ≡ distance xs ys
unfolding distance
distance_cut [] ys zs h = refl
distance_cut (x ∷ xs) [] zs h = absurd (omega arith)
distance_cut (x ∷ xs) (y ∷ ys) zs h = ap (λ (d : ℕ). cond (eqb x y) 0 1 + d) (distance_cut xs ys zs (omega arith))

differ_le : (b : Bool) → cond {A = ℕ} b 0 1 ≤ 1
differ_le true = omega arith
differ_le false = omega arith

pub distance_le : (xs zs : List ℕ) → distance xs zs ≤ length xs
unfolding distance
distance_le [] zs = omega arith
distance_le (x ∷ xs) [] = omega arith
distance_le (x ∷ xs) (z ∷ zs) = omega (arith, differ_le (eqb x z), distance_le xs zs)

pub window_le : (stream zs : List ℕ) (p : ℕ) → distance (window stream p) zs ≤ 32
window_le stream zs p = omega (arith, distance_le (window stream p) zs, length-take 32 (drop p stream))

-- two digits
apart : (a b : ℕ) → a < 2 → b < 2 → ones (bit_xor a b) ≡ cond (eqb a b) 0 1
unfolding ones
apart zero zero ha hb = refl
apart zero (suc zero) ha hb = refl
apart (suc zero) zero ha hb = refl
apart (suc zero) (suc zero) ha hb = refl
apart zero (suc (suc b)) ha hb = absurd (omega arith)
apart (suc zero) (suc (suc b)) ha hb = absurd (omega arith)
apart (suc (suc a)) b ha hb = absurd (omega arith)

pub distance_ones : (n x y : ℕ) → distance (binary n x) (binary n y) ≡ ones (bit_xor (x % 2 ^ n) (y % 2 ^ n))
unfolding binary distance ones
distance_ones zero x y = rw (mod-one x, mod-one y)
distance_ones (suc n) x y =
    ap₂ (λ (a b : ℕ). a + b) (sym (apart a b ha hb)) (distance_ones n x y)
    ∙ sym (ap ones (ap₂ bit_xor (parts x) (parts y) ∙ xor_block n a b (x % 2 ^ n) (y % 2 ^ n) hx hy)
    ∙ ones_cat n (bit_xor a b) (bit_xor (x % 2 ^ n) (y % 2 ^ n)) (xor_lt n (x % 2 ^ n) (y % 2 ^ n) hx hy))
  where
    a : ℕ
    a = x / 2 ^ n % 2

    b : ℕ
    b = y / 2 ^ n % 2

    ha : a < 2
    ha = mod-lt (x / 2 ^ n) (zero-lt-suc 1)

    hb : b < 2
    hb = mod-lt (y / 2 ^ n) (zero-lt-suc 1)

    hx : x % 2 ^ n < 2 ^ n
    hx = mod-lt x (pow_pos n)

    hy : y % 2 ^ n < 2 ^ n
    hy = mod-lt y (pow_pos n)

    parts : (z : ℕ) → z % 2 ^ suc n ≡ z / 2 ^ n % 2 * 2 ^ n + z % 2 ^ n
    parts z = ap (λ (k : ℕ). z % 2 ^ k) (sym (add-one n) ∙ add_comm n 1) ∙ mod-pow-add z 1 n

-- two words
pub distance_words : (w m : ℕ) → w < 2 ^ 32 → m < 2 ^ 32 → distance (binary 32 w) (binary 32 m) ≡ ones (bit_xor w m)
distance_words w m hw hm = distance_ones 32 w m ∙ ap₂ (λ (a b : ℕ). ones (bit_xor a b)) (mod-eq_of_lt hw) (mod-eq_of_lt hm)

-- a window of a word that holds eight bytes of a buffer
pub distance_inside : (bs : List ℕ) (at k w m : ℕ) → at + 8 ≤ length bs → k ≤ 32 → binary 64 w ≡ bits (take 8 (drop at bs))
    → distance (window (binary 64 w) k) (marker_bits m) ≡ distance (window (bits bs) (8 * at + k)) (marker_bits m)
distance_inside bs at k w m h hk e =
    ap (λ (l : List ℕ). distance l (marker_bits m)) (ap (λ (l : List ℕ). window l k) e ∙ window_inside bs at 8 k h (omega arith))

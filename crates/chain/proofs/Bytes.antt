-- A chain over lists of bytes, and the definition's over numbers.
-- Assumes nothing.
use mathlib.Core.Path.{◌≡◌, refl, sym, ap, ◌∙◌, subst}
use mathlib.Core.List.{List, [], ◌∷◌, ◌++◌, map}
use Prim.Native.Nat.{ℕ, ◌+◌, ◌*◌, ◌^◌, ◌<◌, ◌≤◌}
use native.Mathlib.Nat.{suc_inj, suc-ne-zero}
use native.Mathlib.Numerals.{add-one}
use native.Mathlib.Omega.{arith}
use lib.ListN.{length, get_or, take, length-map}
use lib.Seq.{take-suc, take_all}
use Rattle.standard.specs.Lanes.{lanes}
use Rattle.standard.specs.Vector.{shuffle}
use Rattle.standard.proofs.Digits.{Below, digits_below, joined_lt, lanes_joined}
use Rattle.chain.specs.Definition.{indices, partner, chained, counted, low_places, high_places, folded}
use Rattle.chain.proofs.Lists.{partner_of, picked_below}

-- every link has its seventeen bytes
abbrev pub Whole : List (List ℕ) → Type 0
Whole [] = Unit {0}
Whole (link ∷ links) = (length link ≡ 17) × Whole links

-- those passed, one more of them, and all of them
both_whole : (xs ys : List (List ℕ)) → Whole xs → Whole ys → Whole (xs ++ ys)
both_whole [] ys wx wy = wy
both_whole (x ∷ xs) ys wx wy = (wx.0, both_whole xs ys wx.1 wy)

pub whole_more : (links : List (List ℕ)) (k : ℕ) (d : List ℕ) → k < length links → length (get_or links k d) ≡ 17 → Whole (take k links)
    → Whole (take (k + 1) links)
whole_more links k d h l w = rw (add-one, take-suc links k d) (both_whole (take k links) (get_or links k d ∷ []) w (l, tt))

pub whole_all : (links : List (List ℕ)) (k : ℕ) → length links ≤ k → Whole (take k links) → Whole links
whole_all links k over w = rw (take_all k links over) at w

abbrev pub shuffled : List ℕ → List ℕ → List ℕ → List ℕ
shuffled is x y = map (λ i. get_or (x ++ y) i 0) is

abbrev pub chained_bytes : List (List ℕ) → List ℕ → List ℕ → List ℕ → List ℕ
chained_bytes [] a b c = c
chained_bytes (link ∷ links) a b c = chained_bytes links a b (shuffled (indices link) c (partner (get_or link 0 0) a b c))

pub length_indices : (link : List ℕ) → length link ≡ 17 → length (indices link) ≡ 16
length_indices [] e = absurd (suc-ne-zero 16 (sym e))
length_indices (p ∷ is) e = suc_inj e

-- a shuffle has sixteen bytes
bytes_below : (is : List ℕ) (x y : ℕ) → Below 256 (shuffled is (lanes 8 x) (lanes 8 y))
bytes_below is x y = picked_below 256 (omega arith) (λ i. i) (lanes 8 x) (lanes 8 y) is (digits_below 8 16 x) (digits_below 8 16 y)

pub length_shuffled : (is x y : List ℕ) → length (shuffled is x y) ≡ length is
length_shuffled is x y = length-map is (λ i. get_or (x ++ y) i 0)

pub shuffle_lt : (is : List ℕ) → length is ≡ 16 → (x y : ℕ) → shuffle is x y < 2 ^ 128
unfolding shuffle
shuffle_lt is e x y =
    subst (λ (n : ℕ). shuffle is x y < 2 ^ (8 * n)) (length_shuffled is (lanes 8 x) (lanes 8 y) ∙ e)
    (joined_lt 8 (shuffled is (lanes 8 x) (lanes 8 y)) (bytes_below is x y))

pub lanes_shuffle : (is : List ℕ) → length is ≡ 16 → (x y : ℕ) → lanes 8 (shuffle is x y) ≡ shuffled is (lanes 8 x) (lanes 8 y)
unfolding shuffle
lanes_shuffle is e x y =
    lanes_joined 8 refl (shuffled is (lanes 8 x) (lanes 8 y)) (length_shuffled is (lanes 8 x) (lanes 8 y) ∙ e) (bytes_below is x y)

pub lanes_chained : (links : List (List ℕ)) → Whole links → (a b c : ℕ) → lanes 8 (chained links a b c)
    ≡ chained_bytes links (lanes 8 a) (lanes 8 b) (lanes 8 c)
unfolding chained
lanes_chained [] w a b c = refl
lanes_chained (link ∷ links) (l, w) a b c =
    lanes_chained links w a b (shuffle (indices link) c (partner (get_or link 0 0) a b c))
    ∙ ap (chained_bytes links (lanes 8 a) (lanes 8 b))
    (lanes_shuffle (indices link) (length_indices link l) c (partner (get_or link 0 0) a b c)
    ∙ ap (shuffled (indices link) (lanes 8 c)) (sym (partner_of (lanes 8) (get_or link 0 0) a b c)))

pub folded_bytes : (links : List (List ℕ)) → Whole links → folded links ≡ chained_bytes links (counted 16 0) (counted 16 16) (counted 16 0)
unfolding folded
folded_bytes links w = lanes_chained links w low_places high_places low_places

pub chained_lt : (links : List (List ℕ)) → Whole links → (a b c : ℕ) → c < 2 ^ 128 → chained links a b c < 2 ^ 128
unfolding chained
chained_lt [] w a b c h = h
chained_lt (link ∷ links) (l, w) a b c h = chained_lt links w a b _ (shuffle_lt (indices link) (length_indices link l) c (partner (get_or link 0 0) a b c))

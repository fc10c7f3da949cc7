-- Bits of numbers and of buffers: a word of a buffer has the buffer's bits, and the windows that stand inside it. Assumes nothing.
use mathlib.Core.Path.{◌≡◌, refl, sym, ap, ap₂, ◌∙◌}
use mathlib.Core.List.{List, [], ◌∷◌, ◌++◌, append_assoc, append-nil}
use Prim.Native.Nat.{ℕ, zero, suc, ◌+◌, ◌*◌, ◌/◌, ◌%◌, ◌^◌, ◌<◌, ◌≤◌}
use native.Mathlib.Nat.{add_comm, add-zero, zero-add, suc-add, mul-add, mod-lt, mod-eq_of_lt, lt_of_lt_of_le}
use native.Mathlib.Numerals.{add-one}
use native.Mathlib.Omega.{arith}
use lib.Pow.{shr-shr, field, mod-mod-pow, high, low, pow_pos, pow-add, pow_mono}
use lib.ListN.{length, take, drop, get_or, length-append, length-take, length-drop, take-append-drop}
use lib.Seq.{take-suc, take_at, drop_at, drop-cons, drop-append-add, drop-append-le, take-append-le, get_or-drop}
use Rattle.finder_windows.specs.Definition.{binary, bits, window}

pub length_binary : (n x : ℕ) → length (binary n x) ≡ n
unfolding binary
length_binary zero x = refl
length_binary (suc n) x = ap suc (length_binary n x)

-- the digits above place m, and those below it
pub binary_split : (n m x : ℕ) → binary (n + m) x ≡ binary n (x / 2 ^ m) ++ binary m x
unfolding binary
binary_split zero m x = rw (zero-add m)
binary_split (suc n) m x =
    let top : x / 2 ^ (n + m) ≡ x / 2 ^ m / 2 ^ n = sym (shr-shr x m n ∙ ap (λ (k : ℕ). x / 2 ^ k) (add_comm m n)) in
    rw (suc-add n m) (ap₂ (λ (d : ℕ) (ds : List ℕ). d % 2 ∷ ds) top (binary_split n m x))

-- no digit above the n lowest counts
pub binary_same : (n x y : ℕ) → x % 2 ^ n ≡ y % 2 ^ n → binary n x ≡ binary n y
unfolding binary
binary_same zero x y e = refl
binary_same (suc n) x y e = ap₂ (λ (d : ℕ) (ds : List ℕ). d ∷ ds) top (binary_same n x y rest)
  where
    same : x % 2 ^ (1 + n) ≡ y % 2 ^ (1 + n)
    same = rw (add_comm 1 n, add-one n) e

    top : x / 2 ^ n % 2 ≡ y / 2 ^ n % 2
    top = sym (field x 1 n) ∙ ap (λ (k : ℕ). k / 2 ^ n) same ∙ field y 1 n

    rest : x % 2 ^ n ≡ y % 2 ^ n
    rest = sym (mod-mod-pow x 1 n) ∙ ap (λ (k : ℕ). k % 2 ^ n) same ∙ mod-mod-pow y 1 n

-- a byte is put below the digits of a word
pub binary_push : (n v b : ℕ) → b < 256 → binary (n + 8) (v * 256 + b) ≡ binary n v ++ binary 8 b
binary_push n v b h =
    binary_split n 8 (v * 256 + b)
    ∙ ap₂ (λ (x y : List ℕ). x ++ y) (ap (binary n) (high v 8 h)) (binary_same 8 (v * 256 + b) b (low v 8 h ∙ sym (mod-eq_of_lt h)))

pub push_lt : (i v b : ℕ) → v < 2 ^ (8 * i) → b < 256 → v * 256 + b < 2 ^ (8 * (i + 1))
push_lt i v b hv hb =
    let more : 2 ^ (8 * (i + 1)) ≡ 2 ^ (8 * i) * 256 = ap (λ (n : ℕ). 2 ^ n) (mul-add 8 i 1) ∙ pow-add 2 (8 * i) 8 in
    omega arith

-- a word of fewer than eight bytes has room for one more
pub push_fits : (i v b : ℕ) → i < 8 → v < 2 ^ (8 * i) → b < 256 → v * 256 + b < 2 ^ 64
push_fits i v b h hv hb = lt_of_lt_of_le (push_lt i v b hv hb) (pow_mono {j = 64} (omega arith))

-- the 32 bits that stand k places below the top of n, and r above its end
pub binary_window : (n k r w : ℕ) → n ≡ k + (32 + r) → window (binary n w) k ≡ binary 32 (w / 2 ^ r % 2 ^ 32)
binary_window n k r w all =
    ap (take 32) below ∙ take_at (binary 32 (w / 2 ^ r)) (binary r w) 32 (length_binary 32 (w / 2 ^ r))
    ∙ binary_same 32 (w / 2 ^ r) (w / 2 ^ r % 2 ^ 32) (sym (mod-eq_of_lt (mod-lt (w / 2 ^ r) (pow_pos 32))))
  where
    below : drop k (binary n w) ≡ binary 32 (w / 2 ^ r) ++ binary r w
    below =
        ap (λ (l : ℕ). drop k (binary l w)) all ∙ ap (drop k) (binary_split k (32 + r) w)
        ∙ drop_at (binary k (w / 2 ^ (32 + r))) (binary (32 + r) w) k (length_binary k (w / 2 ^ (32 + r))) ∙ binary_split 32 r w

pub bits_append : (xs ys : List ℕ) → bits (xs ++ ys) ≡ bits xs ++ bits ys
unfolding bits
bits_append [] ys = refl
bits_append (x ∷ xs) ys = rw (bits_append xs ys, append_assoc)

pub length_bits : (bs : List ℕ) → length (bits bs) ≡ 8 * length bs
unfolding bits
length_bits [] = refl
length_bits (b ∷ bs) = simp (length-append, length_binary, length_bits bs) (omega arith)

-- one byte more
pub bits_more : (bs : List ℕ) (i : ℕ) → i < length bs → bits (take (i + 1) bs) ≡ bits (take i bs) ++ binary 8 (get_or bs i 0)
unfolding bits
bits_more bs i h =
    ap bits (ap (λ (n : ℕ). take n bs) (add-one i) ∙ take-suc bs i 0 h) ∙ bits_append (take i bs) (get_or bs i 0 ∷ [])
    ∙ ap (λ (z : List ℕ). bits (take i bs) ++ z) (append-nil (binary 8 (get_or bs i 0)))

-- a word that holds i bytes of a buffer, and the next one pushed into it
pub word_more : (bs : List ℕ) (at i v : ℕ) → at + i < length bs → get_or bs (at + i) 0 < 256 → binary (8 * i) v ≡ bits (take i (drop at bs))
    → binary (8 * (i + 1)) (v * 256 + get_or bs (at + i) 0) ≡ bits (take (i + 1) (drop at bs))
word_more bs at i v h hb e =
    ap (λ (n : ℕ). binary n (v * 256 + get_or bs (at + i) 0)) (mul-add 8 i 1) ∙ binary_push (8 * i) v (get_or bs (at + i) 0) hb
    ∙ ap₂ (λ (x y : List ℕ). x ++ y) e (ap (binary 8) (sym (get_or-drop at bs i 0))) ∙ sym (bits_more (drop at bs) i (omega (arith, length-drop at bs)))

-- the bits from a place in a byte on
pub bits_from : (bs : List ℕ) (at r : ℕ) → at ≤ length bs → drop (8 * at + r) (bits bs) ≡ drop r (bits (drop at bs))
bits_from bs at r h =
    let place : 8 * at + r ≡ length (bits (take at bs)) + r = omega (arith, length_bits (take at bs), length-take at bs) in
    ap₂ drop place (ap bits (sym (take-append-drop at bs)) ∙ bits_append (take at bs) (drop at bs)) ∙ drop-append-add (bits (take at bs)) (bits (drop at bs)) r

-- a window that stands inside n bytes of a buffer
pub window_inside : (bs : List ℕ) (at n k : ℕ) → at + n ≤ length bs → k + 32 ≤ 8 * n → window (bits (take n (drop at bs))) k ≡ window (bits bs) (8 * at + k)
window_inside bs at n k h hk = sym (ap (take 32) from_here ∙ take-append-le 32 (drop k inside) after (omega (arith, size, length-drop k inside)))
  where
    inside : List ℕ
    inside = bits (take n (drop at bs))

    after : List ℕ
    after = bits (drop n (drop at bs))

    size : length inside ≡ 8 * n
    size = omega (arith, length_bits (take n (drop at bs)), length-take n (drop at bs), length-drop at bs)

    whole : bits (drop at bs) ≡ inside ++ after
    whole = ap bits (sym (take-append-drop n (drop at bs))) ∙ bits_append (take n (drop at bs)) (drop n (drop at bs))

    from_here : drop (8 * at + k) (bits bs) ≡ drop k inside ++ after
    from_here = bits_from bs at k (omega arith) ∙ ap (drop k) whole ∙ drop-append-le k inside after (omega (arith, size))

-- n bytes of a buffer one by one, from the i-th after a place on, and what follows them
abbrev pub spelt : List ℕ → ℕ → ℕ → ℕ → List ℕ → List ℕ
spelt bs at i zero rest = rest
spelt bs at i (suc n) rest = get_or bs (at + i) 0 ∷ spelt bs at (i + 1) n rest

pub spelt_from : (bs : List ℕ) (at i n : ℕ) → at + i + n ≤ length bs → drop (at + i) bs ≡ spelt bs at i n (drop (at + i + n) bs)
spelt_from bs at i zero h = rw (add-zero (at + i))
spelt_from bs at i (suc n) h =
    let next : suc (at + i) ≡ at + (i + 1) = omega arith in
    let end : at + (i + 1) + n ≡ at + i + suc n = omega arith in
    drop-cons bs (at + i) 0 (omega arith)
    ∙ ap (λ (l : List ℕ). get_or bs (at + i) 0 ∷ l) (ap (λ (k : ℕ). drop k bs) next ∙ spelt_from bs at (i + 1) n (omega arith)
    ∙ ap (λ (k : ℕ). spelt bs at (i + 1) n (drop k bs)) end)

pub spelt_all : (bs : List ℕ) (at n : ℕ) → at + n ≤ length bs → take n (drop at bs) ≡ spelt bs at 0 n []
spelt_all bs at n h =
    ap (take n) (ap (λ (k : ℕ). drop k bs) (sym (add-zero at)) ∙ spelt_from bs at 0 n (omega arith)) ∙ first_of n 0 (drop (at + 0 + n) bs)
  where
    first_of : (n i : ℕ) (rest : List ℕ) → take n (spelt bs at i n rest) ≡ spelt bs at i n []
    first_of zero i rest = refl
    first_of (suc n) i rest = ap (λ (l : List ℕ). get_or bs (at + i) 0 ∷ l) (first_of n (i + 1) rest)

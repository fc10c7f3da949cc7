-- A test of each piece of a list, one after the other, as a test of each number below their count. Assumes nothing.
use Rattle.std.proofs.Common.{◌≡◌, refl, ap, ◌∙◌, arith, ℕ, zero, suc, ◌+◌, ◌*◌, ◌-◌, ◌/◌, Bool, true, false, ◌&&◌, List, [], ◌∷◌, ◌++◌, ◌<◌, length, drop, get_or}
use Rattle.std.specs.Simd.{first_chunks}
use Rattle.std.specs.List.{list_all, enumerate_from}
use Rattle.std.proofs.lemmas.List.{drop-drop, length-drop, length-take-le}
use Rattle.std.proofs.lemmas.List.Folds.{list_all-append}
use Rattle.recording_layout.specs.Definition.{part, each_below, blocks, block}

-- piece k of m numbers
abbrev pub piece : ℕ → List ℕ → ℕ → List ℕ
piece m xs k = part (m * k) (m * k + m) xs

-- one piece more, at the end
one_more : (m n : ℕ) (xs : List ℕ) → first_chunks m (suc n) xs ≡ first_chunks m n xs ++ piece m xs n ∷ []
one_more m zero xs =
    let e : m * 0 ≡ 0 = omega arith in
    let f : m * 0 + m - m * 0 ≡ m = omega arith in rw (f, e)
one_more m (suc n) xs =
    let e : m + m * n ≡ m * suc n = omega arith in
    let f : m * n + m - m * n ≡ m * suc n + m - m * suc n = omega arith in rw (one_more m n (drop m xs), drop-drop (m * n) m xs, e, f)

numbered : (i : ℕ) (xs : List (List ℕ)) (x : List ℕ) → enumerate_from i (xs ++ x ∷ []) ≡ enumerate_from i xs ++ (i + length xs, x) ∷ []
numbered i [] x = let e : i + 0 ≡ i = omega arith in rw e
numbered i (y ∷ ys) x = let e : i + 1 + length ys ≡ i + suc (length ys) = omega arith in rw (numbered (i + 1) ys x, e)

pub counted : (m n : ℕ) (xs : List ℕ) → length (first_chunks m n xs) ≡ n
counted m zero xs = refl
counted m (suc n) xs = ap suc (counted m n (drop m xs))

and_true : (a : Bool) → (a && true) ≡ a
and_true true = refl
and_true false = refl

-- with its number
pub all_numbered : (m : ℕ) (test : ℕ → List ℕ → Bool) (n : ℕ) (xs : List ℕ)
    → list_all (λ p. test p.0 p.1) (enumerate_from 0 (first_chunks m n xs)) ≡ each_below n (λ k. test k (piece m xs k))
unfolding each_below
all_numbered m test zero xs = refl
all_numbered m test (suc n) xs =
    let e : 0 + length (first_chunks m n xs) ≡ n = omega (arith, counted m n xs) in
    ap (λ l. list_all (λ p. test p.0 p.1) (enumerate_from 0 l)) (one_more m n xs)
    ∙ ap (list_all (λ p. test p.0 p.1)) (numbered 0 (first_chunks m n xs) (piece m xs n))
    ∙ list_all-append (λ p. test p.0 p.1) (enumerate_from 0 (first_chunks m n xs)) ((0 + length (first_chunks m n xs), piece m xs n) ∷ [])
    ∙ rw (e, and_true (test n (piece m xs n)), all_numbered m test n xs)

-- without
pub all_pieces : (m : ℕ) (test : List ℕ → Bool) (n : ℕ) (xs : List ℕ)
    → list_all test (first_chunks m n xs) ≡ each_below n (λ k. test (piece m xs k))
unfolding each_below
all_pieces m test zero xs = refl
all_pieces m test (suc n) xs =
    ap (list_all test) (one_more m n xs) ∙ list_all-append test (first_chunks m n xs) (piece m xs n ∷ []) ∙ rw (and_true (test (piece m xs n)), all_pieces m test n xs)

pub nth_piece : (m n : ℕ) (xs : List ℕ) (k : ℕ) (d : List ℕ) → k < n → get_or (first_chunks m n xs) k d ≡ piece m xs k
nth_piece m zero xs k d h = absurd (omega arith)
nth_piece m (suc n) xs zero d h =
    let e : m * 0 ≡ 0 = omega arith in
    let f : m * 0 + m - m * 0 ≡ m = omega arith in rw (f, e)
nth_piece m (suc n) xs (suc k) d h =
    let e : m + m * k ≡ m * suc k = omega arith in
    let f : m * k + m - m * k ≡ m * suc k + m - m * suc k = omega arith in rw (nth_piece m n (drop m xs) k d (omega arith), drop-drop (m * k) m xs, e, f)

-- ---- the blocks of a file

module _ (file : List ℕ) (bs : List (List ℕ)) (e : bs ≡ first_chunks 512 (length file / 512) file) where
  pub count_blocks : length bs ≡ blocks file
  count_blocks = rw e (counted 512 (length file / 512) file)

  module _ (k : ℕ) (h : k < length bs) where
    pub nth_block : get_or bs k [] ≡ block file k
    nth_block = let n = count_blocks in rw e (nth_piece 512 (length file / 512) file k [] (omega arith))

    pub length_block : length (block file k) ≡ 512
    length_block =
        let n = count_blocks in
        let m : 512 * k + 512 - 512 * k ≡ 512 = omega arith in
        length-take-le (512 * k + 512 - 512 * k) (drop (512 * k) file) (rw length-drop (omega arith)) ∙ m

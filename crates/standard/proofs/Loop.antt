-- One law for every loop that applies a lane function at each place: `a[i] = f(a[i], b[i])`, for i from 0 up.
-- Assumes nothing.
use mathlib.Core.Path.{◌≡◌, refl, sym, ap, ap₂, ◌∙◌, subst⁻¹}
use mathlib.Core.List.{List, [], ◌∷◌, ◌++◌, map}
use Prim.Native.Nat.{ℕ, zero, suc, ◌+◌, ◌/◌, ◌<◌, ◌≤◌}
use native.Mathlib.Nat.{not-suc-le-zero, le_of_suc-le-suc, lt_of_lt_of_le, suc_inj, suc-ne-zero}
use native.Mathlib.Numerals.{add-one}
use lib.ListN.{length, get_or, set, take, drop, replicate, length-append, length-replicate}
use Rattle.standard.specs.Lanes.{joined, lanes, zip, unary, binary}
use Rattle.standard.proofs.Digits.{length_digits}

-- xs with its first i elements replaced by f of them and of those of ys
abbrev pub zip_to : (ℕ → ℕ → ℕ) → ℕ → List ℕ → List ℕ → List ℕ
zip_to f zero xs ys = xs
zip_to f (suc i) [] ys = []
zip_to f (suc i) (x ∷ xs) [] = x ∷ xs
zip_to f (suc i) (x ∷ xs) (y ∷ ys) = f x y ∷ zip_to f i xs ys

zip_to_turn : (f : ℕ → ℕ → ℕ) (i : ℕ) (xs ys : List ℕ) → i < length xs → i < length ys
    → set (zip_to f i xs ys) i (f (get_or (zip_to f i xs ys) i 0) (get_or ys i 0)) ≡ zip_to f (suc i) xs ys
zip_to_turn f i [] ys hx hy = absurd (not-suc-le-zero hx)
zip_to_turn f i (x ∷ xs) [] hx hy = absurd (not-suc-le-zero hy)
zip_to_turn f zero (x ∷ xs) (y ∷ ys) hx hy = refl
zip_to_turn f (suc i) (x ∷ xs) (y ∷ ys) hx hy =
    ap (λ (r : List ℕ). f x y ∷ r) (zip_to_turn f i xs ys (le_of_suc-le-suc hx) (le_of_suc-le-suc hy))

zip_to_all : (f : ℕ → ℕ → ℕ) (xs ys : List ℕ) → length xs ≡ length ys → zip_to f (length xs) xs ys ≡ zip f xs ys
zip_to_all f [] ys e = refl
zip_to_all f (x ∷ xs) [] e = absurd (suc-ne-zero (length xs) e)
zip_to_all f (x ∷ xs) (y ∷ ys) e = ap (λ (r : List ℕ). f x y ∷ r) (zip_to_all f xs ys (suc_inj e))

pub zip_map : (f : ℕ → ℕ) (xs : List ℕ) → zip (λ x y. f x) xs xs ≡ map f xs
zip_map f [] = refl
zip_map f (x ∷ xs) = ap (λ (r : List ℕ). f x ∷ r) (zip_map f xs)

-- of lists with idle places after them, the lanes, once the loop is past them
zip_to_front : (f : ℕ → ℕ → ℕ) (i : ℕ) (xs ys u v : List ℕ) → length xs ≡ length ys → length xs ≤ i → take (length xs) (zip_to f i (xs ++ u) (ys ++ v))
    ≡ zip f xs ys
zip_to_front f i [] ys u v e h = refl
zip_to_front f i (x ∷ xs) [] u v e h = absurd (suc-ne-zero (length xs) e)
zip_to_front f zero (x ∷ xs) (y ∷ ys) u v e h = absurd (not-suc-le-zero h)
zip_to_front f (suc i) (x ∷ xs) (y ∷ ys) u v e h = ap (λ (r : List ℕ). f x y ∷ r) (zip_to_front f i xs ys u v (suc_inj e) (le_of_suc-le-suc h))

-- the lanes and the m idle places after them
pub places : (w m x : ℕ) {xs : List ℕ} → xs ≡ lanes w x ++ replicate m 0 → length xs ≡ 128 / w + m
places w m x e = ap length e ∙ length-append (lanes w x) (replicate m 0) ∙ ap₂ ◌+◌ (length_digits w (128 / w) x) (length-replicate m 0)

-- A loop over the lanes of two vectors and the m idle places after them: a turn of it, and what is joined of the lanes once it is past them.
module _ (w m : ℕ) (f : ℕ → ℕ → ℕ) (x y : ℕ) {xs ys : List ℕ} (ex : xs ≡ lanes w x ++ replicate m 0) (ey : ys ≡ lanes w y ++ replicate m 0) where
  pub turn : {i r : ℕ} {a : List ℕ} → i < 128 / w + m → a ≡ zip_to f i xs ys → r ≡ f (get_or a i 0) (get_or ys i 0) → set a i r ≡ zip_to f (i + 1) xs ys
  turn {i} h ea er =
      rw (er, ea, add-one) (zip_to_turn f i xs ys (subst⁻¹ (λ (n : ℕ). i < n) (places w m x ex) h) (subst⁻¹ (λ (n : ℕ). i < n) (places w m y ey) h))

  pub done : (i : ℕ) {a : List ℕ} → 128 / w ≤ i → a ≡ zip_to f i xs ys → joined w (take (128 / w) a) ≡ binary w f x y
  unfolding binary
  done i h ea =
      ap (joined w)
      (ap₂ take (sym lx) (ea ∙ ap₂ (zip_to f i) ex ey)
      ∙ zip_to_front f i (lanes w x) (lanes w y) (replicate m 0) (replicate m 0) (lx ∙ sym ly) (subst⁻¹ (λ (n : ℕ). n ≤ i) lx h))
    where
      lx : length (lanes w x) ≡ 128 / w
      lx = length_digits w (128 / w) x

      ly : length (lanes w y) ≡ 128 / w
      ly = length_digits w (128 / w) y

-- a loop over one vector: the second operand is not looked at
pub one_list : (w : ℕ) (f : ℕ → ℕ) (x : ℕ) → binary w (λ i j. f i) x x ≡ unary w f x
unfolding binary unary
one_list w f x = ap (joined w) (zip_map f (lanes w x))

-- A loop that fills a list with f of the elements of another: `out[i] = f(a[i])`.
zip_fill : (f : ℕ → ℕ) (zs ys : List ℕ) → length zs ≡ length ys → zip (λ x y. f y) zs ys ≡ map f ys
zip_fill f [] [] e = refl
zip_fill f [] (y ∷ ys) e = absurd (suc-ne-zero (length ys) (sym e))
zip_fill f (z ∷ zs) [] e = absurd (suc-ne-zero (length zs) e)
zip_fill f (z ∷ zs) (y ∷ ys) e = ap (λ (r : List ℕ). f y ∷ r) (zip_fill f zs ys (suc_inj e))

module _ (n : ℕ) (f : ℕ → ℕ) (zs ys : List ℕ) (lz : length zs ≡ n) (ly : length ys ≡ n) where
  pub fill_turn : {i r : ℕ} {a : List ℕ} → i < n → a ≡ zip_to (λ x y. f y) i zs ys → r ≡ f (get_or ys i 0) → set a i r ≡ zip_to (λ x y. f y) (i + 1) zs ys
  fill_turn {i} h ea er =
      rw (er, ea, add-one) (zip_to_turn (λ x y. f y) i zs ys (subst⁻¹ (λ (k : ℕ). i < k) lz h) (subst⁻¹ (λ (k : ℕ). i < k) ly h))

  pub filled : (i : ℕ) {a : List ℕ} → i ≡ n → a ≡ zip_to (λ x y. f y) i zs ys → a ≡ map f ys
  filled i ei ea =
      ea ∙ ap (λ (k : ℕ). zip_to (λ x y. f y) k zs ys) (ei ∙ sym lz) ∙ zip_to_all (λ x y. f y) zs ys (lz ∙ sym ly) ∙ zip_fill f zs ys (lz ∙ sym ly)

-- A loop that copies the first n elements: `a[i] = s[i]`.
copied : (n : ℕ) (zs ys : List ℕ) → n ≤ length zs → n ≤ length ys → zip_to (λ x y. y) n zs ys ≡ take n ys ++ drop n zs
copied zero zs ys hz hy = refl
copied (suc n) [] ys hz hy = absurd (not-suc-le-zero hz)
copied (suc n) (z ∷ zs) [] hz hy = absurd (not-suc-le-zero hy)
copied (suc n) (z ∷ zs) (y ∷ ys) hz hy = ap (λ (r : List ℕ). y ∷ r) (copied n zs ys (le_of_suc-le-suc hz) (le_of_suc-le-suc hy))

module _ (n : ℕ) (zs ys : List ℕ) (lz : n ≤ length zs) (ly : n ≤ length ys) where
  pub copy_turn : {i : ℕ} {a : List ℕ} → i < n → a ≡ zip_to (λ x y. y) i zs ys → set a i (get_or ys i 0) ≡ zip_to (λ x y. y) (i + 1) zs ys
  copy_turn {i} h ea = rw (ea, add-one) (zip_to_turn (λ x y. y) i zs ys (lt_of_lt_of_le h lz) (lt_of_lt_of_le h ly))

  pub copy_done : (i : ℕ) {a : List ℕ} → i ≡ n → a ≡ zip_to (λ x y. y) i zs ys → a ≡ take n ys ++ drop n zs
  copy_done i ei ea = ea ∙ ap (λ (k : ℕ). zip_to (λ x y. y) k zs ys) ei ∙ copied n zs ys lz ly

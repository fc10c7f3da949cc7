-- A vector as two halves of 64 bits, each of n lanes of width w.
-- Assumes nothing.
use mathlib.Core.Path.{◌≡◌, refl, sym, ap, ap₂, ◌∙◌, subst⁻¹}
use mathlib.Core.List.{List, [], ◌∷◌, ◌++◌, map}
use Prim.Native.Nat.{ℕ, zero, suc, ◌+◌, ◌*◌, ◌/◌, ◌%◌, ◌^◌, ◌<◌}
use native.Mathlib.Nat.{add-zero, zero-add, add-suc, suc-add, suc_inj, suc-ne-zero, mod-eq_of_lt}
use lib.ListN.{length, get_or, length-map}
use Rattle.standard.specs.Lanes.{digits, joined, lanes, zip, unary, binary}
use Rattle.standard.proofs.Digits.{length_digits, digits_append, joined_append}

-- n elements of a list, from place i on
abbrev pub elements : List ℕ → ℕ → ℕ → List ℕ
elements xs i zero = []
elements xs i (suc n) = get_or xs i 0 ∷ elements xs (suc i) n

length_elements : (xs : List ℕ) (i n : ℕ) → length (elements xs i n) ≡ n
length_elements xs i zero = refl
length_elements xs i (suc n) = ap suc (length_elements xs (suc i) n)

elements_append : (xs : List ℕ) (i m n : ℕ) → elements xs i (m + n) ≡ elements xs i m ++ elements xs (i + m) n
elements_append xs i zero n = ap₂ (elements xs) (sym (add-zero i)) (zero-add n)
elements_append xs i (suc m) n =
    ap (elements xs i) (suc-add m n)
    ∙ ap (λ (r : List ℕ). get_or xs i 0 ∷ r) (elements_append xs (suc i) m n
    ∙ ap (λ (k : ℕ). elements xs (suc i) m ++ elements xs k n) (suc-add i m ∙ sym (add-suc i m)))

pub tail_elements : (x : ℕ) (xs : List ℕ) (i n : ℕ) → elements (x ∷ xs) (suc i) n ≡ elements xs i n
tail_elements x xs i zero = refl
tail_elements x xs i (suc n) = ap (λ (r : List ℕ). get_or xs i 0 ∷ r) (tail_elements x xs (suc i) n)

pub all_elements : (xs : List ℕ) (n : ℕ) → length xs ≡ n → elements xs 0 n ≡ xs
all_elements [] zero e = refl
all_elements [] (suc n) e = absurd (suc-ne-zero n (sym e))
all_elements (x ∷ xs) zero e = absurd (suc-ne-zero (length xs) e)
all_elements (x ∷ xs) (suc n) e = ap (λ (r : List ℕ). x ∷ r) (tail_elements x xs 0 n ∙ all_elements xs n (suc_inj e))

pub length_zip : (f : ℕ → ℕ → ℕ) (xs ys : List ℕ) → length xs ≡ length ys → length (zip f xs ys) ≡ length xs
length_zip f [] ys e = refl
length_zip f (x ∷ xs) [] e = absurd (suc-ne-zero (length xs) e)
length_zip f (x ∷ xs) (y ∷ ys) e = ap suc (length_zip f xs ys (suc_inj e))

pub zip_append : (f : ℕ → ℕ → ℕ) (xs ys us vs : List ℕ) → length xs ≡ length ys → zip f (xs ++ us) (ys ++ vs) ≡ zip f xs ys ++ zip f us vs
zip_append f [] [] us vs e = refl
zip_append f [] (y ∷ ys) us vs e = absurd (suc-ne-zero (length ys) (sym e))
zip_append f (x ∷ xs) [] us vs e = absurd (suc-ne-zero (length xs) e)
zip_append f (x ∷ xs) (y ∷ ys) us vs e = ap (λ (r : List ℕ). f x y ∷ r) (zip_append f xs ys us vs (suc_inj e))

pub map_append : (f : ℕ → ℕ) (xs ys : List ℕ) → map f (xs ++ ys) ≡ map f xs ++ map f ys
map_append f [] ys = refl
map_append f (x ∷ xs) ys = ap (λ (r : List ℕ). f x ∷ r) (map_append f xs ys)

module _ (w n : ℕ) (half : w * n ≡ 64) where
  pub lanes_halves : n + n ≡ 128 / w → (lo hi : ℕ) → lo < 2 ^ 64 → lanes w (lo + 2 ^ 64 * hi) ≡ digits w n lo ++ digits w n hi
  lanes_halves whole lo hi h =
      ap₂ (digits w) (sym whole) (ap (λ (k : ℕ). lo + 2 ^ k * hi) (sym half))
      ∙ digits_append w n n lo hi (subst⁻¹ (λ (k : ℕ). lo < 2 ^ k) half h)

  pub joined_halves : (xs ys : List ℕ) → length xs ≡ n → joined w (xs ++ ys) ≡ joined w xs + 2 ^ 64 * joined w ys
  joined_halves xs ys e =
      joined_append w xs ys ∙ ap (λ (k : ℕ). joined w xs + 2 ^ k * joined w ys) (ap (λ (m : ℕ). w * m) e ∙ half)

  -- two halves of a list, each joined
  pub from_halves : (a : List ℕ) → length a ≡ n + n → {lo hi : ℕ} → lo ≡ joined w (elements a 0 n) → hi ≡ joined w (elements a n n)
      → lo + 2 ^ 64 * hi ≡ joined w a
  from_halves a e el eh =
      ap₂ (λ (l h : ℕ). l + 2 ^ 64 * h) el (eh ∙ ap (λ (k : ℕ). joined w (elements a k n)) (sym (zero-add n)))
      ∙ sym (joined_halves (elements a 0 n) (elements a (0 + n) n) (length_elements a 0 n))
      ∙ ap (joined w) (sym (elements_append a 0 n n) ∙ all_elements a (n + n) e)

  module _ (whole : n + n ≡ 128 / w) (a b : ℕ) (ha : a < 2 ^ 64) where
    -- a lane function of the lanes of both halves
    pub unary_halves : (f : ℕ → ℕ) {lo hi : ℕ} → lo ≡ joined w (map f (digits w n a)) → hi ≡ joined w (map f (digits w n b))
        → lo + 2 ^ 64 * hi ≡ unary w f (a + 2 ^ 64 * b)
    unfolding unary
    unary_halves f el eh =
        ap₂ (λ (l h : ℕ). l + 2 ^ 64 * h) el eh
        ∙ sym (joined_halves (map f (digits w n a)) (map f (digits w n b)) (length-map (digits w n a) f ∙ length_digits w n a))
        ∙ ap (joined w) (sym (map_append f (digits w n a) (digits w n b)) ∙ ap (map f) (sym (lanes_halves whole a b ha)))

    pub binary_halves : (f : ℕ → ℕ → ℕ) (c d : ℕ) → c < 2 ^ 64 → {lo hi : ℕ}
        → lo ≡ joined w (zip f (digits w n a) (digits w n c)) → hi ≡ joined w (zip f (digits w n b) (digits w n d))
        → lo + 2 ^ 64 * hi ≡ binary w f (a + 2 ^ 64 * b) (c + 2 ^ 64 * d)
    unfolding binary
    binary_halves f c d hc el eh =
        ap₂ (λ (l h : ℕ). l + 2 ^ 64 * h) el eh
        ∙ sym (joined_halves (zip f (digits w n a) (digits w n c)) (zip f (digits w n b) (digits w n d))
        (length_zip f (digits w n a) (digits w n c) same ∙ length_digits w n a))
        ∙ ap (joined w)
        (sym (zip_append f (digits w n a) (digits w n c) (digits w n b) (digits w n d) same)
        ∙ ap₂ (zip f) (sym (lanes_halves whole a b ha)) (sym (lanes_halves whole c d hc)))
      where
        same : length (digits w n a) ≡ length (digits w n c)
        same = length_digits w n a ∙ sym (length_digits w n c)

-- halves that are one lane each
pub lanes_64 : (a b : ℕ) → a < 2 ^ 64 → b < 2 ^ 64 → lanes 64 (a + 2 ^ 64 * b) ≡ a ∷ b ∷ []
lanes_64 a b ha hb = lanes_halves 64 1 refl refl a b ha ∙ ap₂ (λ (x y : ℕ). x ∷ y ∷ []) (mod-eq_of_lt ha) (mod-eq_of_lt hb)

pub joined_64 : (x y : ℕ) {ds : List ℕ} → ds ≡ x ∷ y ∷ [] → get_or ds 0 0 + 2 ^ 64 * get_or ds 1 0 ≡ joined 64 (x ∷ y ∷ [])
joined_64 x y e = rw e (ap (λ (z : ℕ). x + 2 ^ 64 * z) (sym (add-zero y)))

pub unary_64 : (f : ℕ → ℕ) (a b : ℕ) → a < 2 ^ 64 → b < 2 ^ 64 → {lo hi : ℕ} → lo ≡ f a → hi ≡ f b → lo + 2 ^ 64 * hi ≡ unary 64 f (a + 2 ^ 64 * b)
unary_64 f a b ha hb el eh = unary_halves 64 1 refl refl a b ha f (el ∙ lane a ha) (eh ∙ lane b hb)
  where
    lane : (x : ℕ) → x < 2 ^ 64 → f x ≡ joined 64 (map f (digits 64 1 x))
    lane x h = ap f (sym (mod-eq_of_lt h)) ∙ sym (add-zero (f (x % 2 ^ 64)))

pub binary_64 : (f : ℕ → ℕ → ℕ) (a b c d : ℕ) → a < 2 ^ 64 → b < 2 ^ 64 → c < 2 ^ 64 → d < 2 ^ 64 → {lo hi : ℕ}
    → lo ≡ f a c → hi ≡ f b d → lo + 2 ^ 64 * hi ≡ binary 64 f (a + 2 ^ 64 * b) (c + 2 ^ 64 * d)
binary_64 f a b c d ha hb hc hd el eh = binary_halves 64 1 refl refl a b ha f c d hc (el ∙ lane a c ha hc) (eh ∙ lane b d hb hd)
  where
    lane : (x y : ℕ) → x < 2 ^ 64 → y < 2 ^ 64 → f x y ≡ joined 64 (zip f (digits 64 1 x) (digits 64 1 y))
    lane x y h k = ap₂ f (sym (mod-eq_of_lt h)) (sym (mod-eq_of_lt k)) ∙ sym (add-zero (f (x % 2 ^ 64) (y % 2 ^ 64)))

-- Lanes of one width from those of another: widening, the halves of the lanes, products of extended lanes, narrowing.
-- Assumes nothing.
use mathlib.Core.Path.{◌≡◌, refl, sym, ap, ap₂, ◌∙◌, subst}
use mathlib.Core.Bool.{Bool, true, false, cond}
use mathlib.Core.List.{List, [], ◌∷◌, ◌++◌, map}
use Prim.Native.Nat.{ℕ, ◌+◌, ◌-◌, ◌*◌, ◌/◌, ◌%◌, ◌^◌, ◌<◌}
use native.Mathlib.Nat.{add-zero, mod-lt, lt_of_lt_of_le}
use native.Mathlib.Omega.{arith}
use borrow.Author.Tests.{ltb-false, le-ltb}
use lib.Dec.{ltb}
use lib.IntN.{ℤ, pos, negsuc}
use lib.Signed.{lt_z}
use lib.ListN.{length, length-append, length-map}
use lib.Pow.{pow_pos, pow_mono, shr_mod}
use lib.Seq.{take_at, drop_at}
use Rattle.standard.specs.Lanes.{digits, joined, lanes, zip, binary, low_half, high_half}
use Rattle.standard.specs.Integer.{signed, modulo, sat_u, sat_s, imul, extend_u, extend_s, narrow_u, narrow_s}
use Rattle.standard.specs.Vector.{extend, extmul, narrow, widen}
use Rattle.standard.proofs.Digits.{Below, digits_below, length_digits, low_digit, joined_lt, lanes_joined}
use Rattle.standard.proofs.Halves.{lanes_halves, joined_halves, map_append}

-- the halves of a list in two parts of one length
halves_of : (xs ys : List ℕ) → length xs ≡ length ys → (low_half (xs ++ ys) ≡ xs) × (high_half (xs ++ ys) ≡ ys)
halves_of xs ys e =
    let m : length xs ≡ length (xs ++ ys) / 2 = omega (arith, length-append xs ys) in
    (take_at xs ys (length (xs ++ ys) / 2) m, drop_at xs ys (length (xs ++ ys) / 2) m)

pub parts : (w n : ℕ) → w * n ≡ 64 → n + n ≡ 128 / w → (a b : ℕ) → a < 2 ^ 64
    → (low_half (lanes w (a + 2 ^ 64 * b)) ≡ digits w n a) × (high_half (lanes w (a + 2 ^ 64 * b)) ≡ digits w n b)
parts w n half whole a b ha = rw (lanes_halves w n half whole a b ha)
    (halves_of (digits w n a) (digits w n b) (length_digits w n a ∙ sym (length_digits w n b)))

-- what widening makes of the bits k is the extended half of a vector whose lanes k has
pub extend_half : (w n : ℕ) → 64 / w ≡ n → (half : List ℕ → List ℕ) (sx : ℕ → ℕ → ℕ → ℕ) (x k : ℕ) → half (lanes w x) ≡ digits w n k → widen sx w k
    ≡ extend half sx w x
unfolding widen extend
extend_half w n count half sx x k e = ap (λ (ds : List ℕ). joined (2 * w) (map (sx w (2 * w)) ds)) (ap (λ (m : ℕ). digits w m k) count ∙ sym e)

-- Extended lanes fit the double width.
modulo_lt : (n : ℕ) (z : ℤ) → modulo n z < 2 ^ n
modulo_lt n (pos i) = mod-lt i (pow_pos n)
modulo_lt n (negsuc i) = omega (arith, pow_pos n)

pub extend_u_lt : (w a : ℕ) → a < 2 ^ w → extend_u w (2 * w) a < 2 ^ (2 * w)
extend_u_lt w a h = lt_of_lt_of_le h (pow_mono (omega arith))

pub extend_s_lt : (w a : ℕ) → a < 2 ^ w → extend_s w (2 * w) a < 2 ^ (2 * w)
extend_s_lt w a h = modulo_lt (2 * w) (signed w a)

below_map : (b c : ℕ) (f : ℕ → ℕ) → ((d : ℕ) → d < b → f d < c) → (ds : List ℕ) → Below b ds → Below c (map f ds)
below_map b c f lt [] u = tt
below_map b c f lt (d ∷ ds) u = (lt d u.0, below_map b c f lt ds u.1)

module _ (w n : ℕ) (sx : ℕ → ℕ → ℕ → ℕ) (lt : (a : ℕ) → a < 2 ^ w → sx w (2 * w) a < 2 ^ (2 * w)) (whole : 2 * w * (128 / (2 * w)) ≡ 128)
    (count : n ≡ 128 / (2 * w)) where
  -- the lanes of an extended vector are the extended lanes
  extended : (half : List ℕ → List ℕ) (x k : ℕ) → half (lanes w x) ≡ digits w n k → lanes (2 * w) (extend half sx w x) ≡ map (sx w (2 * w)) (half (lanes w x))
  unfolding extend
  extended half x k e =
      rw e
      (lanes_joined (2 * w) whole (map (sx w (2 * w)) (digits w n k))
      (length-map (digits w n k) (sx w (2 * w)) ∙ length_digits w n k ∙ count)
      (below_map (2 ^ w) (2 ^ (2 * w)) (sx w (2 * w)) lt (digits w n k) (digits_below w n k)))

  -- a product of extended lanes is the product of the extended vectors
  pub products : (half : List ℕ → List ℕ) (x y j k : ℕ) → half (lanes w x) ≡ digits w n j → half (lanes w y) ≡ digits w n k
      → binary (2 * w) (imul (2 * w)) (extend half sx w x) (extend half sx w y) ≡ extmul half sx w x y
  unfolding binary extmul
  products half x y j k ej ek = ap₂ (λ (p q : List ℕ). joined (2 * w) (zip (imul (2 * w)) p q)) (extended half x j ej) (extended half y k ek)

-- Narrowed lanes fit the width that they are narrowed to.
pub narrow_u_lt : (m w a : ℕ) → narrow_u m w a < 2 ^ w
narrow_u_lt m w a = fits (signed m a)
  where
    held : (i : ℕ) (t : Bool) → ltb (2 ^ w - 1) i ≡ t → cond t (2 ^ w - 1) i < 2 ^ w
    held i true e = omega (arith, pow_pos w)
    held i false e = omega (arith, pow_pos w, ltb-false (2 ^ w - 1) i e)

    fits : (z : ℤ) → sat_u w z < 2 ^ w
    fits (pos i) = rw (le-ltb i 0 (omega arith)) (held i (ltb (2 ^ w - 1) i) refl)
    fits (negsuc i) = pow_pos w

pub sat_s_lt : (w : ℕ) (z : ℤ) → sat_s w z < 2 ^ w
sat_s_lt w z = modulo_lt w (cond (lt_z z low) low (cond (lt_z high z) high z))
  where
    low : ℤ
    low = negsuc (2 ^ (w - 1) - 1)

    high : ℤ
    high = pos (2 ^ (w - 1) - 1)

pub narrow_s_lt : (m w a : ℕ) → narrow_s m w a < 2 ^ w
narrow_s_lt m w a = sat_s_lt w (signed m a)

-- the low half of a vector whose low lanes are these, whatever the others
pub low_lanes : (w n : ℕ) → w * n ≡ 64 → (f : ℕ → ℕ) → ((a : ℕ) → f a < 2 ^ w) → (xs ys : List ℕ) → length xs ≡ n
    → (lo hi : ℕ) → lo < 2 ^ 64 → lo + 2 ^ 64 * hi ≡ joined w (map f xs ++ ys) → lo ≡ joined w (map f xs)
low_lanes w n half f lt xs ys e lo hi h eq =
    sym (low_digit 64 lo hi h)
    ∙ ap (λ (k : ℕ). k % 2 ^ 64) (eq ∙ joined_halves w n half (map f xs) ys count)
    ∙ low_digit 64 (joined w (map f xs)) (joined w ys)
    (subst (λ (k : ℕ). joined w (map f xs) < 2 ^ k) (ap (λ (k : ℕ). w * k) count ∙ half) (joined_lt w (map f xs) (below xs)))
  where
    count : length (map f xs) ≡ n
    count = length-map xs f ∙ e

    below : (ys : List ℕ) → Below (2 ^ w) (map f ys)
    below [] = tt
    below (y ∷ ys) = (lt y, below ys)

-- A narrowed vector: the first vector gives the low half.
pub narrow_halves : (w n : ℕ) → w * n ≡ 64 → 128 / (2 * w) ≡ n → (sx : ℕ → ℕ → ℕ → ℕ) (x y : ℕ) {lo hi : ℕ}
    → lo ≡ joined w (map (sx (2 * w) w) (lanes (2 * w) x)) → hi ≡ joined w (map (sx (2 * w) w) (lanes (2 * w) y)) → lo + 2 ^ 64 * hi ≡ narrow sx w x y
unfolding narrow
narrow_halves w n half count sx x y el eh =
    ap₂ (λ (l h : ℕ). l + 2 ^ 64 * h) el eh
    ∙ sym (joined_halves w n half (map (sx (2 * w) w) (lanes (2 * w) x)) (map (sx (2 * w) w) (lanes (2 * w) y))
    (length-map (lanes (2 * w) x) (sx (2 * w) w) ∙ length_digits (2 * w) (128 / (2 * w)) x ∙ count))
    ∙ ap (joined w) (sym (map_append (sx (2 * w) w) (lanes (2 * w) x) (lanes (2 * w) y)))

-- Widening, from the list of digits; and of two digits of 32 bits.
pub widened : (w : ℕ) (sx : ℕ → ℕ → ℕ → ℕ) (x : ℕ) {ds : List ℕ} → ds ≡ digits w (64 / w) x → joined (2 * w) (map (sx w (2 * w)) ds) ≡ widen sx w x
unfolding widen
widened w sx x e = ap (λ (ds : List ℕ). joined (2 * w) (map (sx w (2 * w)) ds)) e

pub widened_32 : (sx : ℕ → ℕ → ℕ → ℕ) (x : ℕ) → x < 2 ^ 64 → {lo hi : ℕ} → lo ≡ sx 32 64 (x % 2 ^ 32) → hi ≡ sx 32 64 (x / 2 ^ 32) → lo + 2 ^ 64 * hi
    ≡ widen sx 32 x
unfolding widen
widened_32 sx x h el eh =
    ap₂ (λ (l h : ℕ). l + 2 ^ 64 * h) el
    (eh ∙ ap (sx 32 64) (sym (shr_mod 32 32 h)) ∙ sym (add-zero (sx 32 64 (x / 2 ^ 32 % 2 ^ 32))))

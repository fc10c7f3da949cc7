-- One lane of a result: of a lane-by-lane operation, of a bitwise one at any width, and the two halves of a lane. Assumes nothing.
use mathlib.Core.Path.{◌≡◌, refl, sym, ap, ap₂, ◌∙◌, subst, subst⁻¹}
use mathlib.Core.List.{List, [], ◌∷◌, ◌++◌}
use Prim.Native.Nat.{ℕ, zero, suc, ◌+◌, ◌-◌, ◌*◌, ◌/◌, ◌%◌, ◌^◌, ◌<◌, min, max}
use native.Mathlib.Nat.{mul-zero, mul-suc, mul-one, mul-add, add-mul, two-mul, add_comm, one-mul, div-one, mod-lt, mod-add-div, mod-eq_of_lt, sub_self}
use native.Mathlib.Nat.{sub-zero, not-suc-le-zero, le_of_suc-le-suc}
use native.Mathlib.Omega.{arith}
use lib.Bits.{and_zero_r, or_zero_l, or_zero_r, and_mask}
use lib.ListN.{length, get_or}
use lib.Pow.{pow_pos, ones_lt, shr-shr, mod-mod-pow, field}
use Rattle.standard.specs.Lanes.{digits, joined, lanes, zip, unary, binary, extract}
use Rattle.standard.specs.Integer.{inot, bitwise, iand, ior, ibitselect}
use Rattle.standard.proofs.Bitwise.{and_bits, or_bits, not_bits}
use Rattle.standard.proofs.Digits.{Below, digits_below, length_digits, low_digit, rest_digits, lanes_joined, digits_append, joined_append, joined_lt}
use Rattle.standard.proofs.Halves.{length_zip, zip_append}
use Rattle.standard.proofs.Loop.{zip_map, one_list}

get_d_zip : (f : ℕ → ℕ → ℕ) (i : ℕ) (xs ys : List ℕ) → i < length xs → i < length ys → get_or (zip f xs ys) i 0 ≡ f (get_or xs i 0) (get_or ys i 0)
get_d_zip f i [] ys h k = absurd (not-suc-le-zero h)
get_d_zip f i (x ∷ xs) [] h k = absurd (not-suc-le-zero k)
get_d_zip f zero (x ∷ xs) (y ∷ ys) h k = refl
get_d_zip f (suc i) (x ∷ xs) (y ∷ ys) h k = get_d_zip f i xs ys (le_of_suc-le-suc h) (le_of_suc-le-suc k)

-- a function of two numbers below b gives one below b
abbrev pub Keeps : ℕ → (ℕ → ℕ → ℕ) → Type 0
Keeps b f = (x y : ℕ) → x < b → y < b → f x y < b

below_zip : {b : ℕ} {f : ℕ → ℕ → ℕ} → Keeps b f → (xs ys : List ℕ) → Below b xs → Below b ys → Below b (zip f xs ys)
below_zip k [] ys p q = tt
below_zip k (x ∷ xs) [] p q = tt
below_zip k (x ∷ xs) (y ∷ ys) p q = (k x y p.0 q.0, below_zip k xs ys p.1 q.1)

-- a lane of a lane-by-lane operation is the operation of the lanes
module _ (w : ℕ) (whole : w * (128 / w) ≡ 128) (i : ℕ) (h : i < 128 / w) where
  inside : (x : ℕ) → i < length (lanes w x)
  inside x = subst⁻¹ (λ (n : ℕ). i < n) (length_digits w (128 / w) x) h

  pub at_binary : (f : ℕ → ℕ → ℕ) → Keeps (2 ^ w) f → (x y : ℕ) → extract w (binary w f x y) i ≡ f (extract w x i) (extract w y i)
  unfolding extract binary
  at_binary f k x y =
      ap (λ (ds : List ℕ). get_or ds i 0)
      (lanes_joined w whole (zip f (lanes w x) (lanes w y)) (length_zip f (lanes w x) (lanes w y) same ∙ length_digits w (128 / w) x)
      (below_zip k (lanes w x) (lanes w y) (digits_below w (128 / w) x) (digits_below w (128 / w) y)))
      ∙ get_d_zip f i (lanes w x) (lanes w y) (inside x) (inside y)
    where
      same : length (lanes w x) ≡ length (lanes w y)
      same = length_digits w (128 / w) x ∙ sym (length_digits w (128 / w) y)

  pub at_unary : (f : ℕ → ℕ) → ((x : ℕ) → x < 2 ^ w → f x < 2 ^ w) → (x : ℕ) → extract w (unary w f x) i ≡ f (extract w x i)
  at_unary f k x = ap (λ (r : ℕ). extract w r i) (sym (one_list w f x)) ∙ at_binary (λ a b. f a) (λ a b p q. k a p) x x

-- A bitwise operation of k + m bits: that of the low k bits, and that of the others.
bits_split : (k m x : ℕ) → digits 1 (k + m) x ≡ digits 1 k (x % 2 ^ k) ++ digits 1 m (x / 2 ^ k)
bits_split k m x =
    ap (digits 1 (k + m)) (sym (mod-add-div x (2 ^ k)) ∙ ap (λ (n : ℕ). x % 2 ^ k + 2 ^ n * (x / 2 ^ k)) (sym (one-mul k)))
    ∙ digits_append 1 k m (x % 2 ^ k) (x / 2 ^ k) (subst⁻¹ (λ (n : ℕ). x % 2 ^ k < 2 ^ n) (one-mul k) (mod-lt x (pow_pos k)))

module _ (f : ℕ → ℕ → ℕ) (bit : Keeps 2 f) where
  bits_of : (k x y : ℕ) → length (zip f (digits 1 k x) (digits 1 k y)) ≡ k
  bits_of k x y = length_zip f (digits 1 k x) (digits 1 k y) (length_digits 1 k x ∙ sym (length_digits 1 k y)) ∙ length_digits 1 k x

  bitwise_lt : (k x y : ℕ) → bitwise f k x y < 2 ^ k
  unfolding bitwise
  bitwise_lt k x y =
      subst (λ (n : ℕ). joined 1 (zip f (digits 1 k x) (digits 1 k y)) < 2 ^ n) (one-mul _ ∙ bits_of k x y)
      (joined_lt 1 (zip f (digits 1 k x) (digits 1 k y)) (below_zip bit (digits 1 k x) (digits 1 k y) (digits_below 1 k x) (digits_below 1 k y)))

  bitwise_split : (k m x y : ℕ) → bitwise f (k + m) x y ≡ bitwise f k (x % 2 ^ k) (y % 2 ^ k) + 2 ^ k * bitwise f m (x / 2 ^ k) (y / 2 ^ k)
  unfolding bitwise
  bitwise_split k m x y =
      ap₂ (λ (p q : List ℕ). joined 1 (zip f p q)) (bits_split k m x) (bits_split k m y)
      ∙ ap (joined 1) (zip_append f (digits 1 k (x % 2 ^ k)) (digits 1 k (y % 2 ^ k)) (digits 1 m (x / 2 ^ k)) (digits 1 m (y / 2 ^ k))
      (length_digits 1 k (x % 2 ^ k) ∙ sym (length_digits 1 k (y % 2 ^ k))))
      ∙ joined_append 1 (zip f (digits 1 k (x % 2 ^ k)) (digits 1 k (y % 2 ^ k))) (zip f (digits 1 m (x / 2 ^ k)) (digits 1 m (y / 2 ^ k)))
      ∙ ap (λ (n : ℕ). joined 1 (zip f (digits 1 k (x % 2 ^ k)) (digits 1 k (y % 2 ^ k))) + 2 ^ n * joined 1
      (zip f (digits 1 m (x / 2 ^ k)) (digits 1 m (y / 2 ^ k))))
      (one-mul _ ∙ bits_of k (x % 2 ^ k) (y % 2 ^ k))

  -- the lanes of a bitwise operation are the operations of the lanes
  bitwise_lanes : (w n x y : ℕ) → digits w n (bitwise f (w * n) x y) ≡ zip (bitwise f w) (digits w n x) (digits w n y)
  bitwise_lanes w zero x y = refl
  bitwise_lanes w (suc n) x y =
      ap (digits w (suc n)) (ap (λ (k : ℕ). bitwise f k x y) (mul-suc w n ∙ add_comm (w * n) w) ∙ bitwise_split w (w * n) x y)
      ∙ ap₂ ◌∷◌ (low_digit w _ (bitwise f (w * n) (x / 2 ^ w) (y / 2 ^ w)) less)
      (ap (digits w n) (rest_digits w _ (bitwise f (w * n) (x / 2 ^ w) (y / 2 ^ w)) less) ∙ bitwise_lanes w n (x / 2 ^ w) (y / 2 ^ w))
    where
      less : bitwise f w (x % 2 ^ w) (y % 2 ^ w) < 2 ^ w
      less = bitwise_lt w (x % 2 ^ w) (y % 2 ^ w)

  module _ (w : ℕ) (whole : w * (128 / w) ≡ 128) (i : ℕ) (h : i < 128 / w) where
    at_bitwise : (x y : ℕ) → extract w (bitwise f 128 x y) i ≡ bitwise f w (extract w x i) (extract w y i)
    unfolding extract
    at_bitwise x y =
        ap (λ (k : ℕ). get_or (lanes w (bitwise f k x y)) i 0) (sym whole)
        ∙ ap (λ (ds : List ℕ). get_or ds i 0) (bitwise_lanes w (128 / w) x y)
        ∙ get_d_zip (bitwise f w) i (lanes w x) (lanes w y) (inside w whole i h x) (inside w whole i h y)

-- bitselect, lane by lane at any width
min_bit : Keeps 2 min
min_bit x y h k = omega arith

max_bit : Keeps 2 max
max_bit x y h k = omega arith

not_is : (n x : ℕ) → bitwise (λ i j. 1 - i) n x x ≡ inot n x
unfolding bitwise inot
not_is n x = ap (joined 1) (zip_map (λ i. 1 - i) (digits 1 n x))

module _ (w : ℕ) (whole : w * (128 / w) ≡ 128) (i : ℕ) (h : i < 128 / w) where
  at_not : (x : ℕ) → extract w (inot 128 x) i ≡ inot w (extract w x i)
  at_not x =
      ap (λ (r : ℕ). extract w r i) (sym (not_is 128 x)) ∙ at_bitwise (λ i j. 1 - i) (λ x y h k. omega arith) w whole i h x x ∙ not_is w (extract w x i)

  pub at_bitselect : (x y m : ℕ) → extract w (ibitselect 128 x y m) i ≡ ibitselect w (extract w x i) (extract w y i) (extract w m i)
  at_bitselect x y m =
      at_bitwise max max_bit w whole i h (iand 128 x m) (iand 128 y (inot 128 m))
      ∙ ap₂ (ior w) (at_bitwise min min_bit w whole i h x m)
      (at_bitwise min min_bit w whole i h y (inot 128 m) ∙ ap (iand w (extract w y i)) (at_not m))

-- where the mask is all ones, and where it is all zeros
module _ (n a b : ℕ) (ha : a < 2 ^ n) (hb : b < 2 ^ n) where
  pub all_ones : ibitselect n a b (2 ^ n - 1) ≡ a
  all_ones =
      ap₂ (ior n) (sym (and_bits n a (2 ^ n - 1) ha (ones_lt n)) ∙ and_mask a n ∙ mod-eq_of_lt ha)
      (ap (iand n b) (sym (not_bits n (2 ^ n - 1) (ones_lt n)) ∙ sub_self (2 ^ n - 1)) ∙ sym (and_bits n b 0 hb (pow_pos n)) ∙ and_zero_r b)
      ∙ sym (or_bits n a 0 ha (pow_pos n)) ∙ or_zero_r a

  pub all_zeros : ibitselect n a b 0 ≡ b
  all_zeros =
      ap₂ (ior n) (sym (and_bits n a 0 ha (pow_pos n)) ∙ and_zero_r a)
      (ap (iand n b) (sym (not_bits n 0 (pow_pos n)) ∙ sub-zero (2 ^ n - 1)) ∙ sym (and_bits n b (2 ^ n - 1) hb (ones_lt n)) ∙ and_mask b n ∙ mod-eq_of_lt hb)
      ∙ sym (or_bits n 0 b (pow_pos n) hb) ∙ or_zero_l b

-- The lane at i, as a quotient and a remainder; and the halves of a lane are two lanes of half the width.
digit_at : (w n x i : ℕ) → i < n → get_or (digits w n x) i 0 ≡ x / 2 ^ (w * i) % 2 ^ w
digit_at w zero x i h = absurd (not-suc-le-zero h)
digit_at w (suc n) x zero h = ap (λ (q : ℕ). q % 2 ^ w) (sym (div-one x) ∙ ap (λ (k : ℕ). x / 2 ^ k) (sym (mul-zero w)))
digit_at w (suc n) x (suc i) h =
    digit_at w n (x / 2 ^ w) i (le_of_suc-le-suc h)
    ∙ ap (λ (q : ℕ). q % 2 ^ w) (shr-shr x w (w * i) ∙ ap (λ (k : ℕ). x / 2 ^ k) (add_comm w (w * i) ∙ sym (mul-suc w i)))

twice : (w i : ℕ) → (w + w) * i ≡ w * (2 * i)
twice w i = add-mul w w i ∙ sym (ap (λ (k : ℕ). w * k) (two-mul i) ∙ mul-add w i i)

module _ (w n x i : ℕ) (h : i < n) where
  lower : get_or (digits (w + w) n x) i 0 % 2 ^ w ≡ get_or (digits w (2 * n) x) (2 * i) 0
  lower =
      ap (λ (d : ℕ). d % 2 ^ w) (digit_at (w + w) n x i h) ∙ mod-mod-pow (x / 2 ^ ((w + w) * i)) w w
      ∙ ap (λ (k : ℕ). x / 2 ^ k % 2 ^ w) (twice w i) ∙ sym (digit_at w (2 * n) x (2 * i) (omega arith))

  upper : get_or (digits (w + w) n x) i 0 / 2 ^ w ≡ get_or (digits w (2 * n) x) (2 * i + 1) 0
  upper =
      ap (λ (d : ℕ). d / 2 ^ w) (digit_at (w + w) n x i h) ∙ field (x / 2 ^ ((w + w) * i)) w w
      ∙ ap (λ (q : ℕ). q % 2 ^ w) (shr-shr x ((w + w) * i) w ∙ ap (λ (k : ℕ). x / 2 ^ k) (ap (λ (k : ℕ). k + w) (twice w i) ∙ next))
      ∙ sym (digit_at w (2 * n) x (2 * i + 1) (omega arith))
    where
      next : w * (2 * i) + w ≡ w * (2 * i + 1)
      next = sym (mul-add w (2 * i) 1 ∙ ap (λ (k : ℕ). w * (2 * i) + k) (mul-one w))

-- The halves of a lane of w + w bits, at place i, are the lanes of w bits at 2i and 2i + 1.
pub record Halves (w x i : ℕ) : Type 0 where
  pub low : extract (w + w) x i % 2 ^ w ≡ extract w x (2 * i)
  pub high : extract (w + w) x i / 2 ^ w ≡ extract w x (2 * i + 1)

pub halves_8 : (x i : ℕ) → i < 8 → Halves 8 x i
unfolding extract
halves_8 x i h = record { low = lower 8 8 x i h; high = upper 8 8 x i h }

pub halves_16 : (x i : ℕ) → i < 4 → Halves 16 x i
unfolding extract
halves_16 x i h = record { low = lower 16 4 x i h; high = upper 16 4 x i h }

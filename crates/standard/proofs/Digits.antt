-- The laws of digits, over the width: a number is determined by its digits, the digits of the joined list are the list, and joining the digits is the number.
-- Assumes nothing.
use mathlib.Core.Path.{◌≡◌, refl, sym, ap, ap₂, ◌∙◌, subst, subst⁻¹}
use mathlib.Core.List.{List, [], ◌∷◌, ◌++◌}
use Prim.Native.Nat.{ℕ, zero, suc, ◌+◌, ◌*◌, ◌/◌, ◌%◌, ◌^◌, ◌<◌}
use native.Mathlib.Nat.{zero-add, add_comm, add_assoc, suc-add, mul-zero, mul-suc, one-mul, mul-add, mul_assoc, mul_comm, mod-lt, mod-eq_of_lt, mod-add-div}
use native.Mathlib.Nat.{div-eq_of_lt, add-mul-div_left, add-mul-mod_self_left}
use lib.Arith.{lt-one, digits_lt}
use lib.Pow.{pow_pos, pow-add, shr_lt}
use lib.ListN.{length}
use Rattle.standard.specs.Lanes.{digits, joined, lanes}

-- Every element is below b.
abbrev pub Below : ℕ → List ℕ → Type 0
Below b [] = Unit {0}
Below b (x ∷ xs) = (x < b) × Below b xs

pub digits_below : (w n x : ℕ) → Below (2 ^ w) (digits w n x)
digits_below w zero x = tt
digits_below w (suc n) x = (mod-lt x (pow_pos w), digits_below w n (x / 2 ^ w))

pub length_digits : (w n x : ℕ) → length (digits w n x) ≡ n
length_digits w zero x = refl
length_digits w (suc n) x = ap suc (length_digits w n (x / 2 ^ w))

-- 2^w·(n+1) digits' worth, as one digit and the rest
pub pow_step : (w n : ℕ) → 2 ^ (w * suc n) ≡ 2 ^ (w * n) * 2 ^ w
pow_step w n = ap (λ (k : ℕ). 2 ^ k) (mul-suc w n) ∙ pow-add 2 (w * n) w

pub quotient_lt : (w n x : ℕ) → x < 2 ^ (w * suc n) → x / 2 ^ w < 2 ^ (w * n)
quotient_lt w n x h = shr_lt (w * n) w (subst (λ (k : ℕ). x < 2 ^ k) (mul-suc w n) h)

-- a digit and the rest, taken apart again
pub low_digit : (w d j : ℕ) → d < 2 ^ w → (d + 2 ^ w * j) % 2 ^ w ≡ d
low_digit w d j h = add-mul-mod_self_left d (2 ^ w) j ∙ mod-eq_of_lt h

pub rest_digits : (w d j : ℕ) → d < 2 ^ w → (d + 2 ^ w * j) / 2 ^ w ≡ j
rest_digits w d j h = add-mul-div_left d j (pow_pos w) ∙ ap (λ (q : ℕ). q + j) (div-eq_of_lt h) ∙ zero-add j

-- joining the digits is the number
pub joined_digits : (w n x : ℕ) → x < 2 ^ (w * n) → joined w (digits w n x) ≡ x
joined_digits w zero x h = sym (lt-one (subst (λ (k : ℕ). x < 2 ^ k) (mul-zero w) h))
joined_digits w (suc n) x h =
    ap (λ (j : ℕ). x % 2 ^ w + 2 ^ w * j) (joined_digits w n (x / 2 ^ w) (quotient_lt w n x h)) ∙ mod-add-div x (2 ^ w)

-- the digits of the joined list are the list
pub digits_joined : (w : ℕ) (ds : List ℕ) → Below (2 ^ w) ds → digits w (length ds) (joined w ds) ≡ ds
digits_joined w [] b = refl
digits_joined w (d ∷ ds) b =
    ap₂ ◌∷◌ (low_digit w d (joined w ds) b.0) (ap (digits w (length ds)) (rest_digits w d (joined w ds) b.0) ∙ digits_joined w ds b.1)

pub joined_lt : (w : ℕ) (ds : List ℕ) → Below (2 ^ w) ds → joined w ds < 2 ^ (w * length ds)
joined_lt w [] b = subst⁻¹ (λ (k : ℕ). 0 < 2 ^ k) (mul-zero w) (pow_pos 0)
joined_lt w (d ∷ ds) b =
    rw (pow_step, add_comm d (2 ^ w * joined w ds), mul_comm (2 ^ w) (joined w ds)) (digits_lt (joined_lt w ds b.1) b.0)

-- a number is determined by its digits
determined : (w n x y : ℕ) → x < 2 ^ (w * n) → y < 2 ^ (w * n) → digits w n x ≡ digits w n y → x ≡ y
determined w n x y hx hy e = sym (joined_digits w n x hx) ∙ ap (joined w) e ∙ joined_digits w n y hy

-- the digits of a number in two parts, and the number of a list in two parts
pub digits_append : (w m n lo hi : ℕ) → lo < 2 ^ (w * m) → digits w (m + n) (lo + 2 ^ (w * m) * hi) ≡ digits w m lo ++ digits w n hi
digits_append w zero n lo hi h =
    ap₂ (digits w) (zero-add n)
    (ap₂ (λ (l p : ℕ). l + 2 ^ p * hi) (lt-one (subst (λ (k : ℕ). lo < 2 ^ k) (mul-zero w) h)) (mul-zero w) ∙ zero-add (1 * hi) ∙ one-mul hi)
digits_append w (suc m) n lo hi h =
    ap (λ (k : ℕ). digits w k (lo + 2 ^ (w * suc m) * hi)) (suc-add m n)
    ∙ ap (λ (k : ℕ). digits w (suc (m + n)) (lo + k)) regroup
    ∙ ap₂ ◌∷◌ (add-mul-mod_self_left lo (2 ^ w) (2 ^ (w * m) * hi))
    (ap (digits w (m + n)) (add-mul-div_left lo (2 ^ (w * m) * hi) (pow_pos w))
    ∙ digits_append w m n (lo / 2 ^ w) hi (quotient_lt w m lo h))
  where
    regroup : 2 ^ (w * suc m) * hi ≡ 2 ^ w * (2 ^ (w * m) * hi)
    regroup = ap (λ (k : ℕ). k * hi) (pow_step w m ∙ mul_comm (2 ^ (w * m)) (2 ^ w)) ∙ mul_assoc (2 ^ w) (2 ^ (w * m)) hi

pub joined_append : (w : ℕ) (xs ys : List ℕ) → joined w (xs ++ ys) ≡ joined w xs + 2 ^ (w * length xs) * joined w ys
joined_append w [] ys =
    sym (ap (λ (k : ℕ). 0 + 2 ^ k * joined w ys) (mul-zero w) ∙ zero-add (1 * joined w ys) ∙ one-mul (joined w ys))
joined_append w (x ∷ xs) ys =
    ap (λ (j : ℕ). x + 2 ^ w * j) (joined_append w xs ys)
    ∙ ap (λ (j : ℕ). x + j) (mul-add (2 ^ w) (joined w xs) (2 ^ (w * length xs) * joined w ys))
    ∙ sym (add_assoc x (2 ^ w * joined w xs) (2 ^ w * (2 ^ (w * length xs) * joined w ys)))
    ∙ ap (λ (j : ℕ). x + 2 ^ w * joined w xs + j)
    (sym (mul_assoc (2 ^ w) (2 ^ (w * length xs)) (joined w ys))
    ∙ ap (λ (p : ℕ). p * joined w ys) (mul_comm (2 ^ w) (2 ^ (w * length xs)) ∙ sym (pow_step w (length xs))))

-- The same of a vector, at any width that divides it.
module _ (w : ℕ) (whole : w * (128 / w) ≡ 128) where
  fit : {x : ℕ} → x < 2 ^ 128 → x < 2 ^ (w * (128 / w))
  fit {x} h = subst⁻¹ (λ (k : ℕ). x < 2 ^ k) whole h

  pub lanes_joined : (ds : List ℕ) → length ds ≡ 128 / w → Below (2 ^ w) ds → lanes w (joined w ds) ≡ ds
  lanes_joined ds e b = ap (λ (n : ℕ). digits w n (joined w ds)) (sym e) ∙ digits_joined w ds b

  pub lanes_determine : (x y : ℕ) → x < 2 ^ 128 → y < 2 ^ 128 → lanes w x ≡ lanes w y → x ≡ y
  lanes_determine x y hx hy e = determined w (128 / w) x y (fit hx) (fit hy) e

-- The laws of packed lanes, over the width w and the number n of lanes: of halves whose digits in base 2^w are f of those of a and of b, and what a
-- mask, an or, an exclusive-or, a sum without carry, a difference without borrow, a product and a shift to the right do to them. Assumes nothing.
use mathlib.Core.Path.{◌≡◌, refl, sym, ap, ap₂, ◌∙◌, subst}
use Prim.Native.Nat.{ℕ, zero, suc, ◌+◌, ◌-◌, ◌*◌, ◌/◌, ◌%◌, ◌^◌, ◌<◌, ◌≤◌}
use native.Mathlib.Nat.{add_comm, add-zero, mul_comm, mul_assoc, zero-mul, mul-add, add-mul, add-sub_cancel, sub-add_cancel, le-add_left, lt_of_le_of_lt}
use native.Mathlib.Nat.{mod-lt, mul-mod_left, mul-div_cancel, div-add-mod'}
use native.Mathlib.Omega.{arith}
use lib.Pow.{pow_pos, shr_le, shl-shr}
use lib.Arith.{digits_lt}
use lib.Bits.{bit_and, bit_or, bit_xor, and_block, or_block, xor_block, and_lt, or_lt, xor_lt, and_shr, and_mod, and_zero_r, and_le_r}
use mathlib.Core.List.{map}
use lib.ListN.{replicate}
use Rattle.standard.specs.Lanes.{digits, joined, zip}
use Rattle.standard.proofs.Digits.{joined_digits, pow_step, low_digit, rest_digits}
use Rattle.standard.proofs.Loop.{zip_map}

-- f of the digits of a and of b, joined
abbrev pub lanewise : ℕ → ℕ → (ℕ → ℕ → ℕ) → ℕ → ℕ → ℕ
lanewise w n f a b = joined w (zip f (digits w n a) (digits w n b))

-- what holds of each pair of digits
abbrev pub Each : ℕ → (ℕ → ℕ → Type 0) → Type 0
Each w P = (p q : ℕ) → p < 2 ^ w → q < 2 ^ w → P p q

-- a digit and the rest, as the laws of bits have them
turned : (d w j : ℕ) → d + 2 ^ w * j ≡ j * 2 ^ w + d
turned d w j = add_comm d (2 ^ w * j) ∙ ap (λ (k : ℕ). k + d) (mul_comm (2 ^ w) j)

-- what holds of each pair of digits, at the lowest digits of a and b
at : (w : ℕ) {P : ℕ → ℕ → Type 0} → Each w P → (a b : ℕ) → P (a % 2 ^ w) (b % 2 ^ w)
at w e a b = e (a % 2 ^ w) (b % 2 ^ w) (mod-lt a (pow_pos w)) (mod-lt b (pow_pos w))

module _ (w : ℕ) (f : ℕ → ℕ → ℕ) where
  lanes_lt : (n : ℕ) → Each w (λ p q. f p q < 2 ^ w) → (a b : ℕ) → lanewise w n f a b < 2 ^ (w * n)
  lanes_lt zero e a b = pow_pos (w * 0)
  lanes_lt (suc n) e a b =
      let j : ℕ = lanewise w n f (a / 2 ^ w) (b / 2 ^ w) in
      rw (turned (f (a % 2 ^ w) (b % 2 ^ w)) w j, pow_step w n) (digits_lt (lanes_lt n e (a / 2 ^ w) (b / 2 ^ w)) (at w e a b))

  product_lanes : (k n a b : ℕ) → lanewise w n f a b * k ≡ lanewise w n (λ p q. f p q * k) a b
  product_lanes k zero a b = zero-mul k
  product_lanes k (suc n) a b = rw (← product_lanes k n (a / 2 ^ w) (b / 2 ^ w), add-mul, mul_assoc)

  -- a function of each lane
  mapped_lanes : (g : ℕ → ℕ) → Each w (λ p q. f p q < 2 ^ w) → (n a b : ℕ)
      → joined w (map g (digits w n (lanewise w n f a b))) ≡ lanewise w n (λ p q. g (f p q)) a b
  mapped_lanes g e zero a b = refl
  mapped_lanes g e (suc n) a b =
      let d : ℕ = f (a % 2 ^ w) (b % 2 ^ w) in
      let j : ℕ = lanewise w n f (a / 2 ^ w) (b / 2 ^ w) in
      rw (low_digit w d j (at w e a b), rest_digits w d j (at w e a b), mapped_lanes g e n (a / 2 ^ w) (b / 2 ^ w))

module _ (w : ℕ) (f g : ℕ → ℕ → ℕ) where
  same_lanes : Each w (λ p q. f p q ≡ g p q) → (n a b : ℕ) → lanewise w n f a b ≡ lanewise w n g a b
  same_lanes e zero a b = refl
  same_lanes e (suc n) a b = ap₂ (λ (d j : ℕ). d + 2 ^ w * j) (at w e a b) (same_lanes e n (a / 2 ^ w) (b / 2 ^ w))

  sum_lanes : (n a b : ℕ) → lanewise w n f a b + lanewise w n g a b ≡ lanewise w n (λ p q. f p q + g p q) a b
  sum_lanes zero a b = refl
  sum_lanes (suc n) a b = rw (← sum_lanes n (a / 2 ^ w) (b / 2 ^ w), mul-add) (omega arith)

  -- an operation on bits, by what it does to two numbers in two parts
  bitwise_lanes : (op : ℕ → ℕ → ℕ) → op 0 0 ≡ 0
      → ((k a b r s : ℕ) → r < 2 ^ k → s < 2 ^ k → op (a * 2 ^ k + r) (b * 2 ^ k + s) ≡ op a b * 2 ^ k + op r s)
      → Each w (λ p q. f p q < 2 ^ w) → Each w (λ p q. g p q < 2 ^ w)
      → (n a b : ℕ) → op (lanewise w n f a b) (lanewise w n g a b) ≡ lanewise w n (λ p q. op (f p q) (g p q)) a b
  bitwise_lanes op none block ef eg zero a b = none
  bitwise_lanes op none block ef eg (suc n) a b =
      let d : ℕ = f (a % 2 ^ w) (b % 2 ^ w) in
      let e : ℕ = g (a % 2 ^ w) (b % 2 ^ w) in
      let i : ℕ = lanewise w n f (a / 2 ^ w) (b / 2 ^ w) in
      let j : ℕ = lanewise w n g (a / 2 ^ w) (b / 2 ^ w) in
      ap₂ op (turned d w i) (turned e w j) ∙ block w i j d e (at w ef a b) (at w eg a b) ∙ sym (turned (op d e) w (op i j))
      ∙ ap (λ (k : ℕ). op d e + 2 ^ w * k) (bitwise_lanes op none block ef eg n (a / 2 ^ w) (b / 2 ^ w))

-- x is the half whose lanes are f of those of a and of b
pub record Packed (w n a b x : ℕ) (f : ℕ → ℕ → ℕ) : Type 0 where
  pub value : x ≡ lanewise w n f a b
  pub small : Each w (λ p q. f p q < 2 ^ w)

module _ {w n a b x : ℕ} {f : ℕ → ℕ → ℕ} (h : Packed w n a b x f) where
  pub packed_lt : x < 2 ^ (w * n)
  packed_lt = rw h.value (lanes_lt w f n h.small a b)

  pub packed_is : (g : ℕ → ℕ → ℕ) → Each w (λ p q. f p q ≡ g p q) → x ≡ lanewise w n g a b
  packed_is g e = h.value ∙ same_lanes w f g e n a b

  pub packed_as : (g : ℕ → ℕ → ℕ) → Each w (λ p q. f p q ≡ g p q) → Packed w n a b x g
  packed_as g e = record { value = packed_is g e; small = λ p q hp hq. subst (λ (d : ℕ). d < 2 ^ w) (e p q hp hq) (h.small p q hp hq) }

  pub mapped : (g : ℕ → ℕ) → Each w (λ p q. g (f p q) < 2 ^ w) → Packed w n a b (joined w (map g (digits w n x))) (λ p q. g (f p q))
  mapped g e =
      record { value = ap (λ (y : ℕ). joined w (map g (digits w n y))) h.value ∙ mapped_lanes w f g h.small n a b; small = e }

  pub times : (k : ℕ) → Each w (λ p q. f p q * k < 2 ^ w) → Packed w n a b (x * k) (λ p q. f p q * k)
  times k e = record { value = ap (λ (m : ℕ). m * k) h.value ∙ product_lanes w f k n a b; small = e }

module _ {w n a b x y : ℕ} {f g : ℕ → ℕ → ℕ} (h : Packed w n a b x f) (k : Packed w n a b y g) where
  bitwise : (op : ℕ → ℕ → ℕ) → op 0 0 ≡ 0
      → ((k a b r s : ℕ) → r < 2 ^ k → s < 2 ^ k → op (a * 2 ^ k + r) (b * 2 ^ k + s) ≡ op a b * 2 ^ k + op r s)
      → ((k a b : ℕ) → a < 2 ^ k → b < 2 ^ k → op a b < 2 ^ k) → Packed w n a b (op x y) (λ p q. op (f p q) (g p q))
  bitwise op none block less =
      record {
        value = ap₂ op h.value k.value ∙ bitwise_lanes w f g op none block h.small k.small n a b;
        small = λ p q hp hq. less w (f p q) (g p q) (h.small p q hp hq) (k.small p q hp hq);
      }

  pub and : Packed w n a b (bit_and x y) (λ p q. bit_and (f p q) (g p q))
  and = bitwise bit_and refl and_block and_lt

  pub or : Packed w n a b (bit_or x y) (λ p q. bit_or (f p q) (g p q))
  or = bitwise bit_or refl or_block or_lt

  pub xor : Packed w n a b (bit_xor x y) (λ p q. bit_xor (f p q) (g p q))
  xor = bitwise bit_xor refl xor_block xor_lt

  -- a sum without carry
  pub plus : Each w (λ p q. f p q + g p q < 2 ^ w) → Packed w n a b (x + y) (λ p q. f p q + g p q)
  plus e = record { value = ap₂ ◌+◌ h.value k.value ∙ sum_lanes w f g n a b; small = e }

  -- a difference without borrow
  whole : Each w (λ p q. g p q ≤ f p q) → x ≡ lanewise w n (λ p q. f p q - g p q) a b + y
  whole e =
      packed_is h (λ p q. f p q - g p q + g p q) (λ p q hp hq. sym (sub-add_cancel (e p q hp hq)))
      ∙ sym (sum_lanes w (λ p q. f p q - g p q) g n a b) ∙ ap (λ (m : ℕ). lanewise w n (λ p q. f p q - g p q) a b + m) (sym k.value)

  pub minus_le : Each w (λ p q. g p q ≤ f p q) → y ≤ x
  minus_le e = rw (whole e) (le-add_left y (lanewise w n (λ p q. f p q - g p q) a b))

  pub minus : Each w (λ p q. g p q ≤ f p q) → Packed w n a b (x - y) (λ p q. f p q - g p q)
  minus e = record {
    value = ap (λ (m : ℕ). m - y) (whole e) ∙ add-sub_cancel (lanewise w n (λ p q. f p q - g p q) a b) y;
    small = λ p q hp hq. let l = h.small p q hp hq in omega arith;
  }

-- the halves themselves, and one lane repeated
lanes_first : (w n a b : ℕ) → lanewise w n (λ p q. p) a b ≡ joined w (digits w n a)
lanes_first w zero a b = refl
lanes_first w (suc n) a b = ap (λ (j : ℕ). a % 2 ^ w + 2 ^ w * j) (lanes_first w n (a / 2 ^ w) (b / 2 ^ w))

lanes_second : (w n a b : ℕ) → lanewise w n (λ p q. q) a b ≡ joined w (digits w n b)
lanes_second w zero a b = refl
lanes_second w (suc n) a b = ap (λ (j : ℕ). b % 2 ^ w + 2 ^ w * j) (lanes_second w n (a / 2 ^ w) (b / 2 ^ w))

lanes_repeat : (w n d a b : ℕ) → joined w (replicate n d) ≡ lanewise w n (λ p q. d) a b
lanes_repeat w zero d a b = refl
lanes_repeat w (suc n) d a b = ap (λ (j : ℕ). d + 2 ^ w * j) (lanes_repeat w n d (a / 2 ^ w) (b / 2 ^ w))

module _ {w n a b : ℕ} where
  pub first : a < 2 ^ (w * n) → Packed w n a b a (λ p q. p)
  first h = record { value = sym (lanes_first w n a b ∙ joined_digits w n a h); small = λ p q hp hq. hp }

  pub second : b < 2 ^ (w * n) → Packed w n a b b (λ p q. q)
  second h = record { value = sym (lanes_second w n a b ∙ joined_digits w n b h); small = λ p q hp hq. hq }

  pub repeat : (d : ℕ) → d < 2 ^ w → Packed w n a b (joined w (replicate n d)) (λ p q. d)
  repeat d h = record { value = lanes_repeat w n d a b; small = λ p q hp hq. h }

-- a shift to the right that drops no bit
module _ {w n a b x : ℕ} {f : ℕ → ℕ → ℕ} (h : Packed w n a b x f) (k : ℕ) where
  shifted : Each w (λ p q. f p q % 2 ^ k ≡ 0) → x ≡ lanewise w n (λ p q. f p q / 2 ^ k) a b * 2 ^ k
  shifted e =
      packed_is h (λ p q. f p q / 2 ^ k * 2 ^ k)
      (λ p q hp hq. sym (div-add-mod' (f p q) (2 ^ k)) ∙ ap (λ (m : ℕ). f p q / 2 ^ k * 2 ^ k + m) (e p q hp hq) ∙ add-zero (f p q / 2 ^ k * 2 ^ k))
      ∙ sym (product_lanes w (λ p q. f p q / 2 ^ k) (2 ^ k) n a b)

  pub shift_right : Each w (λ p q. f p q % 2 ^ k ≡ 0) → Packed w n a b (x / 2 ^ k) (λ p q. f p q / 2 ^ k)
  shift_right e = record {
    value = ap (λ (m : ℕ). m / 2 ^ k) (shifted e) ∙ mul-div_cancel (lanewise w n (λ p q. f p q / 2 ^ k) a b) (pow_pos k);
    small = λ p q hp hq. lt_of_le_of_lt (shr_le (f p q) k) (h.small p q hp hq);
  }

-- a shift to the right whose mask drops what came from the next lane
masked_shift : (x y k : ℕ) → bit_and x (y * 2 ^ k) / 2 ^ k ≡ bit_and (x / 2 ^ k) y
masked_shift x y k = and_shr x (y * 2 ^ k) k ∙ ap (bit_and (x / 2 ^ k)) (shl-shr y k)

module _ {w n a b x y : ℕ} {f g : ℕ → ℕ → ℕ} (h : Packed w n a b x f) (i : Packed w n a b y g) where
  pub shift_masked : (k : ℕ) → Each w (λ p q. g p q * 2 ^ k < 2 ^ w)
      → Packed w n a b (bit_and (x / 2 ^ k) y) (λ p q. bit_and (f p q / 2 ^ k) (g p q))
  shift_masked k e =
      record {
        value = sym (masked_shift x y k) ∙ packed_is (shift_right (and h (times i (2 ^ k) e)) k
            (λ p q hp hq. and_mod (f p q) (g p q * 2 ^ k) k ∙ ap (bit_and (f p q % 2 ^ k)) (mul-mod_left (g p q) (2 ^ k)) ∙ and_zero_r (f p q % 2 ^ k)))
            (λ p q. bit_and (f p q / 2 ^ k) (g p q)) (λ p q hp hq. masked_shift (f p q) (g p q) k);
        small = λ p q hp hq. lt_of_le_of_lt (and_le_r (f p q / 2 ^ k) (g p q)) (i.small p q hp hq);
      }

-- one half alone
pub packed_map : {w n a x : ℕ} {f : ℕ → ℕ → ℕ} → Packed w n a a x f → (g : ℕ → ℕ) → Each w (λ p q. f p q ≡ g p)
    → x ≡ joined w (map g (digits w n a))
packed_map {w} {n} {a} h g e = packed_is h (λ p q. g p) e ∙ ap (joined w) (zip_map g (digits w n a))

-- A bit flipped in a byte is the bit flipped among the block's bits. Assumes nothing.
use mathlib.Core.Path.{◌≡◌, refl, sym, ap, ap₂, ◌∙◌, subst}
use mathlib.Core.Bool.{Bool, not}
use mathlib.Core.List.{List, [], ◌∷◌, ◌++◌}
use Prim.Native.Nat.{ℕ, zero, suc, ◌+◌, ◌-◌, ◌*◌, ◌/◌, ◌%◌, ◌^◌, ◌<◌}
use native.Mathlib.Nat.{mod-lt, div-eq_of_lt, div_self, mod_self, zero-add, not-suc-le-zero, le_of_suc-le-suc}
use native.Mathlib.Omega.{arith}
use lib.Dec.{eqb, lit<}
use lib.Pow.{pow_pos, pow-lt, field, mod-mod-pow}
use lib.ListN.{length, get_or, set, length-append}
use Rattle.recording_crc16.specs.Remainder.{◌⊕◌, bits, spread}
use Rattle.recording_crc16.proofs.Xor.{⊕-shr, ⊕-mod, ⊕-0}
use Rattle.recording_crc16.proofs.Bytes.{length_bits}
use Rattle.recording_mending_rules.proofs.Bits.{flip}

-- the bits of a number depend on its remainder alone
bits_agree : (k a b : ℕ) → a % 2 ^ k ≡ b % 2 ^ k → bits k a ≡ bits k b
unfolding bits
bits_agree zero a b e = refl
bits_agree (suc k) a b e =
    let f : a % 2 ^ (1 + k) ≡ b % 2 ^ (1 + k) = subst (λ (n : ℕ). a % 2 ^ n ≡ b % 2 ^ n) (omega arith) e in
    ap₂ (λ (x : ℕ) (l : List Bool). eqb x 1 ∷ l) (sym (field a 1 k) ∙ ap (λ (x : ℕ). x / 2 ^ k) f ∙ field b 1 k)
    (bits_agree k a b (sym (mod-mod-pow a 1 k) ∙ ap (λ (x : ℕ). x % 2 ^ k) f ∙ mod-mod-pow b 1 k))

other : (t : ℕ) → t < 2 → eqb (t ⊕ 1) 1 ≡ not (eqb t 1)
unfolding ◌⊕◌
other zero h = refl
other (suc zero) h = refl
other (suc (suc t)) h = absurd (omega arith)

-- the top bit of m + 1
at_top : (m x : ℕ) → bits (suc m) (x ⊕ (2 ^ m)) ≡ flip 0 (bits (suc m) x)
unfolding bits flip
at_top m x =
    ap₂ (λ (b : Bool) (l : List Bool). b ∷ l)
    (ap (λ (y : ℕ). eqb (y % 2) 1) (⊕-shr x (2 ^ m) m ∙ ap (λ (y : ℕ). (x / 2 ^ m) ⊕ y) (div_self (pow_pos m)))
    ∙ ap (λ (y : ℕ). eqb y 1) (⊕-mod (x / 2 ^ m) 1 1)
    ∙ other (x / 2 ^ m % 2) (mod-lt (x / 2 ^ m) (lit< tt)))
    (bits_agree m (x ⊕ (2 ^ m)) x (⊕-mod x (2 ^ m) m ∙ ap (λ (y : ℕ). (x % 2 ^ m) ⊕ y) (mod_self (2 ^ m)) ∙ ⊕-0 (x % 2 ^ m)))

bits_flip : (j m n x : ℕ) → n ≡ j + m → bits (suc n) (x ⊕ (2 ^ m)) ≡ flip j (bits (suc n) x)
unfolding bits flip
bits_flip zero m n x e =
    subst (λ (k : ℕ). bits (suc k) (x ⊕ (2 ^ m)) ≡ flip 0 (bits (suc k) x)) (sym (e ∙ zero-add m)) (at_top m x)
bits_flip (suc j) m zero x e = absurd (omega arith)
bits_flip (suc j) m (suc n) x e =
    let h : 2 ^ m < 2 ^ suc n = pow-lt (omega arith) in
    ap₂ (λ (y : ℕ) (l : List Bool). eqb (y % 2) 1 ∷ l)
    (⊕-shr x (2 ^ m) (suc n) ∙ ap (λ (y : ℕ). (x / 2 ^ suc n) ⊕ y) (div-eq_of_lt h) ∙ ⊕-0 (x / 2 ^ suc n))
    (bits_flip j m n x (omega arith))

flip_right : (xs ys : List Bool) (k n : ℕ) → n ≡ length xs + k → flip n (xs ++ ys) ≡ xs ++ flip k ys
unfolding flip
flip_right [] ys k n e = ap (λ (m : ℕ). flip m ys) (e ∙ zero-add k)
flip_right (x ∷ xs) ys k zero e = absurd (omega arith)
flip_right (x ∷ xs) ys k (suc n) e = ap (λ (l : List Bool). x ∷ l) (flip_right xs ys k n (omega arith))

flip_left : (xs ys : List Bool) (k : ℕ) → k < length xs → flip k (xs ++ ys) ≡ flip k xs ++ ys
unfolding flip
flip_left [] ys k h = absurd (not-suc-le-zero h)
flip_left (x ∷ xs) ys zero h = refl
flip_left (x ∷ xs) ys (suc k) h = ap (λ (l : List Bool). x ∷ l) (flip_left xs ys k (le_of_suc-le-suc h))

pub spread_set : (xs : List ℕ) (i j n : ℕ) → j < 8 → i < length xs → n ≡ 8 * i + j
    → spread (set xs i (get_or xs i 0 ⊕ (2 ^ (7 - j)))) ≡ flip n (spread xs)
unfolding spread
spread_set [] i j n hj hi e = absurd (not-suc-le-zero hi)
spread_set (x ∷ xs) zero j n hj hi e =
    ap (λ (l : List Bool). l ++ spread xs) (bits_flip j (7 - j) 7 x (omega arith))
    ∙ sym (flip_left (bits 8 x) (spread xs) j (subst (λ (k : ℕ). j < k) (sym (length_bits 8 x)) hj))
    ∙ ap (λ (k : ℕ). flip k (bits 8 x ++ spread xs)) (omega arith)
spread_set (x ∷ xs) (suc i) j n hj hi e =
    ap (λ (l : List Bool). bits 8 x ++ l) (spread_set xs i j (8 * i + j) hj (le_of_suc-le-suc hi) refl)
    ∙ sym (flip_right (bits 8 x) (spread xs) (8 * i + j) n (omega (arith, length_bits 8 x)))

pub length_spread : (xs : List ℕ) → length (spread xs) ≡ 8 * length xs
unfolding spread
length_spread [] = refl
length_spread (x ∷ xs) = length-append (bits 8 x) (spread xs) ∙ omega (arith, length_bits 8 x, length_spread xs)

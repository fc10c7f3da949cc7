-- The polynomial has x + 1 as a factor: a step keeps the sum of the register's bits and the bits that went in. Assumes nothing.
use mathlib.Core.Path.{◌≡◌, refl, sym, ap, ap₂, ◌∙◌}
use mathlib.Core.Bool.{Bool, true, false, not}
use mathlib.Core.List.{List, [], ◌∷◌}
use Prim.Native.Nat.{ℕ, zero, suc, ◌*◌, ◌/◌, ◌%◌, ◌^◌, ◌<◌}
use native.Mathlib.Nat.{not-suc-le-zero, le_of_suc-le-suc, mod-lt}
use native.Mathlib.Numerals.{add-one}
use native.Mathlib.Omega.{arith}
use lib.Dec.{lit<}
use lib.Pow.{field, mod-mod-pow, shr-shr, shl-shr}
use lib.ListN.{length}
use Rattle.recording_crc16.specs.Remainder.{◌⊕◌, top, shift, step, run}
use Rattle.recording_crc16.proofs.Xor.{⊕-assoc, ⊕-comm, ⊕-left-comm, ⊕-again, ⊕-shr, ⊕-mod, ⊕-swap, 0-⊕, ⊕-0}
use Rattle.recording_crc16.proofs.Chunk.{bit}
use Rattle.recording_mending_rules.proofs.Bits.{Right, flip}
use Rattle.recording_mending_rules.proofs.Flip.{length_flip}

-- the sum of the k low bits
sum : ℕ → ℕ → ℕ
sum zero n = 0
sum (suc k) n = (n % 2) ⊕ sum k (n / 2)

sum-⊕ : (k a b : ℕ) → sum k (a ⊕ b) ≡ sum k a ⊕ sum k b
unfolding sum
sum-⊕ zero a b = sym (0-⊕ 0)
sum-⊕ (suc k) a b =
    ap₂ ◌⊕◌ (⊕-mod a b 1) (ap (sum k) (⊕-shr a b 1) ∙ sum-⊕ k (a / 2) (b / 2))
    ∙ ⊕-swap (a % 2) (b % 2) (sum k (a / 2)) (sum k (b / 2))

sum_mod : (k n : ℕ) → sum k (n % 2 ^ k) ≡ sum k n
unfolding sum
sum_mod zero n = refl
sum_mod (suc k) n =
    let e : n % 2 ^ suc k % 2 ≡ n % 2 = ap (λ (m : ℕ). n % 2 ^ m % 2) (sym (add-one k)) ∙ mod-mod-pow n k 1 in
    let f : n % 2 ^ suc k / 2 ≡ n / 2 % 2 ^ k = ap (λ (m : ℕ). n % 2 ^ m / 2) (sym (add-one k)) ∙ field n k 1 in
    ap₂ ◌⊕◌ e (ap (sum k) f ∙ sum_mod k (n / 2))

sum_top : (k n : ℕ) → sum (suc k) n ≡ sum k n ⊕ (n / 2 ^ k % 2)
unfolding sum
sum_top zero n =
    let e : n / 1 ≡ n = omega arith in
    ⊕-0 (n % 2) ∙ sym (0-⊕ (n / 1 % 2) ∙ ap (λ (m : ℕ). m % 2) e)
sum_top (suc k) n =
    let e : n / 2 / 2 ^ k ≡ n / 2 ^ suc k = shr-shr n 1 k ∙ ap (λ (m : ℕ). n / 2 ^ m) (omega arith) in
    ap (λ (m : ℕ). (n % 2) ⊕ m) (sum_top k (n / 2) ∙ ap (λ (m : ℕ). sum k (n / 2) ⊕ (m % 2)) e)
    ∙ sym (⊕-assoc (n % 2) (sum k (n / 2)) (n / 2 ^ suc k % 2))

digit : (n : ℕ) → n % 2 < 2
digit n = mod-lt n (lit< tt)

fed : (t : ℕ) → t < 2 → sum 16 (t * 4129) ≡ t
unfolding sum ◌⊕◌
fed zero h = refl
fed (suc zero) h = refl
fed (suc (suc t)) h = absurd (omega arith)

-- what falls out at the top comes back three times
sum_up : (r : ℕ) → sum 16 (r * 2 % 65536) ≡ sum 15 r
unfolding sum
sum_up r =
    let e : r * 2 % 65536 % 2 ≡ 0 = omega arith in
    let f : r * 2 % 65536 / 2 ≡ r % 32768 = field (r * 2) 15 1 ∙ ap (λ (x : ℕ). x % 32768) (shl-shr r 1) in
    ap₂ (λ (x y : ℕ). x ⊕ sum 15 y) e f ∙ 0-⊕ (sum 15 (r % 32768)) ∙ sum_mod 15 r

sum_shift : (r : ℕ) → sum 16 (shift r) ≡ sum 16 r
unfolding shift
sum_shift r =
    sum-⊕ 16 (r / 32768 % 2 * 4129) (r * 2 % 65536)
    ∙ ap₂ ◌⊕◌ (fed (r / 32768 % 2) (digit (r / 32768))) (sum_up r)
    ∙ ⊕-comm (r / 32768 % 2) (sum 15 r)
    ∙ sym (sum_top 15 r)

sum_bit : (b : Bool) → sum 16 (top b) ≡ bit b
unfolding sum ◌⊕◌
sum_bit true = refl
sum_bit false = refl

sum_step : (r : ℕ) (b : Bool) → sum 16 (step r b) ≡ sum 16 r ⊕ bit b
unfolding step
sum_step r b = sum_shift (r ⊕ top b) ∙ sum-⊕ 16 r (top b) ∙ ap (λ (x : ℕ). sum 16 r ⊕ x) (sum_bit b)

-- the sum of the bits of a message
parity : List Bool → ℕ
parity [] = 0
parity (b ∷ bs) = bit b ⊕ parity bs

sum_run : (bs : List Bool) (r : ℕ) → sum 16 (run r bs) ≡ sum 16 r ⊕ parity bs
unfolding run parity
sum_run [] r = sym (⊕-0 (sum 16 r))
sum_run (b ∷ bs) r =
    sum_run bs (step r b) ∙ ap (λ (x : ℕ). x ⊕ parity bs) (sum_step r b) ∙ ⊕-assoc (sum 16 r) (bit b) (parity bs)

ones : sum 16 65535 ≡ 0
unfolding sum ◌⊕◌
ones = refl

none : sum 16 0 ≡ 0
unfolding sum ◌⊕◌
none = refl

-- the sum of the bits of a right message is 0
right_even : (bs : List Bool) → Right bs → parity bs ≡ 0
unfolding Right
right_even bs e =
    sym (0-⊕ (parity bs)) ∙ ap (λ (x : ℕ). x ⊕ parity bs) (sym ones) ∙ sym (sum_run bs 65535) ∙ ap (sum 16) e ∙ none

bit_not : (b : Bool) → bit (not b) ≡ 1 ⊕ bit b
unfolding ◌⊕◌
bit_not true = refl
bit_not false = refl

parity_flip : (k : ℕ) (bs : List Bool) → k < length bs → parity (flip k bs) ≡ 1 ⊕ parity bs
unfolding parity flip
parity_flip k [] h = absurd (not-suc-le-zero h)
parity_flip zero (b ∷ bs) h = ap (λ (x : ℕ). x ⊕ parity bs) (bit_not b) ∙ ⊕-assoc 1 (bit b) (parity bs)
parity_flip (suc k) (b ∷ bs) h =
    ap (λ (x : ℕ). bit b ⊕ x) (parity_flip k bs (le_of_suc-le-suc h)) ∙ ⊕-left-comm (bit b) 1 (parity bs)

-- so of two messages that differ in one bit at most one is right
one_of_two : (k : ℕ) (bs : List Bool) → k < length bs → parity bs ≡ 0 → Right (flip k bs) → ⊥
one_of_two k bs h e f =
    let z : ◌≡◌ {A = ℕ} 1 0 = sym (⊕-0 1) ∙ ap (λ (x : ℕ). 1 ⊕ x) (sym e) ∙ sym (parity_flip k bs h) ∙ right_even (flip k bs) f in
    omega arith

-- a right message with one bit flipped, or three, is not right
pub odd_flip : (k : ℕ) (bs : List Bool) → k < length bs → Right bs → Right (flip k bs) → ⊥
odd_flip k bs h e f = one_of_two k bs h (right_even bs e) f

pub odd_flips : (i j k : ℕ) (bs : List Bool) → i < length bs → j < length bs → k < length bs → Right bs
    → Right (flip k (flip j (flip i bs))) → ⊥
odd_flips i j k bs hi hj hk e f =
    let hj' : j < length (flip i bs) = rw length_flip hj in
    let hk' : k < length (flip j (flip i bs)) = simp length_flip hk in
    one_of_two k (flip j (flip i bs)) hk'
    (parity_flip j (flip i bs) hj' ∙ ap (λ (x : ℕ). 1 ⊕ x) (parity_flip i bs hi) ∙ ⊕-again 1 (parity bs) ∙ right_even bs e) f

-- The digits of a number. Assumes nothing.
use mathlib.Core.Path.{◌≡◌, refl, sym, ap, ap₂, ◌∙◌}
use mathlib.Core.Bool.{Bool, true, false, not, cond}
use mathlib.Core.List.{List, [], ◌∷◌, ◌++◌, append_assoc, append-nil}
use Prim.Native.Nat.{ℕ, zero, suc, ◌-◌, ◌*◌, ◌/◌, ◌%◌, ◌^◌, ◌≤◌, ◌<◌}
use native.Mathlib.Omega.{arith}
use borrow.Author.Tests.{lt-ltb, le-ltb}
use lib.Dec.{T, ltb, leb, leb→le, nleb→lt}
use lib.ListN.{length, get_or, take, drop, set, length-set, length-append}
use lib.Seq.{take_all, take-suc, drop-cons, drop-set-lt, get_or-set_same}
use Rattle.program_digits.specs.Digits.{glyph, digits, places, decimal, hex, hex_bytes}

-- The last digit of n is put at place j, and k others are still to come.
pub put_before : (b k j n : ℕ) (out whole : List ℕ) {a : ℕ} → j < length out → a ≡ glyph (n % b)
    → digits b (suc k) n ++ drop (suc j) out ≡ whole → digits b k (n / b) ++ drop j (set out j a) ≡ whole
unfolding digits
put_before b k j n out whole {a} h d e =
    ap (λ (r : List ℕ). digits b k (n / b) ++ r)
    (drop-cons (set out j a) j 0 (simp length-set h) ∙ ap₂ ◌∷◌ (get_or-set_same out j a 0 h ∙ d) (drop-set-lt (suc j) out j a (omega arith)))
    ∙ sym (append_assoc (digits b k (n / b)) (glyph (n % b) ∷ []) (drop (suc j) out))
    ∙ e

-- A number of more than one digit, and one of one digit.
pub places_more : (k n : ℕ) → 9 < n → places (suc k) n ≡ suc (places k (n / 10))
unfolding places
places_more k n h = simp (le-ltb n 10 (omega arith))

pub places_one : (k n : ℕ) → n < 10 → places k n ≡ 1
unfolding places
places_one zero n h = refl
places_one (suc k) n h = simp (lt-ltb n 10 h)

-- A number of which nineteen digits were counted and that has another had twenty-one.
pub not_last : (k n : ℕ) → k ≤ 20 → n < 10 ^ (21 - k) → 9 < n → k ≤ 19
not_last k n h small more = go (leb k 19) (leb→le k 19) (nleb→lt k 19)
  where
    go : (t : Bool) → (T t → k ≤ 19) → (T (not t) → 19 < k) → k ≤ 19
    go true p q = p tt
    go false p q =
        let above = q tt in
        let one : 21 - k ≡ 1 = omega arith in
        omega (arith, rw one at small)

places_at_most : (k n : ℕ) → places k n ≤ suc k
unfolding places
places_at_most zero n = omega arith
places_at_most (suc k) n = go (ltb n 10) (places_at_most k (n / 10))
  where
    go : (t : Bool) → places k (n / 10) ≤ suc k → cond t 1 (suc (places k (n / 10))) ≤ suc (suc k)
    go true h = omega arith
    go false h = omega arith

pub length_digits : (b k n : ℕ) → length (digits b k n) ≡ k
unfolding digits
length_digits b zero n = refl
length_digits b (suc k) n = simp (length-append, length_digits b k (n / b)) (omega arith)

-- The last k of twenty places, as `spell` leaves them.
pub last_part : (b k n : ℕ) (text : List ℕ) → k ≤ 20 → drop (20 - k) text ≡ digits b k n → digits b k n ≡ take (20 - (20 - k)) (drop (20 - k) text)
last_part b k n text h e = rw e (sym (take_all (20 - (20 - k)) (digits b k n) (rw length_digits (omega arith))))

pub decimal_length : (n : ℕ) → length (decimal n) ≤ 20
unfolding decimal
decimal_length n = rw length_digits (places_at_most 19 n)

pub length_hex_bytes : (bytes : List ℕ) → length (hex_bytes bytes) ≡ 2 * length bytes
unfolding hex_bytes
length_hex_bytes [] = refl
length_hex_bytes (b ∷ bytes) = simp (length-append, length_digits 16 2 b, length_hex_bytes bytes) (omega arith)

-- One byte more.
pub hex_bytes_append : (xs ys : List ℕ) → hex_bytes (xs ++ ys) ≡ hex_bytes xs ++ hex_bytes ys
unfolding hex_bytes
hex_bytes_append [] ys = refl
hex_bytes_append (x ∷ xs) ys = ap (λ (r : List ℕ). hex 2 x ++ r) (hex_bytes_append xs ys) ∙ sym (append_assoc (hex 2 x) (hex_bytes xs) (hex_bytes ys))

pub byte_more : (i : ℕ) (bytes : List ℕ) → i < length bytes → hex_bytes (take (suc i) bytes) ≡ hex_bytes (take i bytes) ++ hex 2 (get_or bytes i 0)
unfolding hex_bytes
byte_more i bytes h = rw (take-suc bytes i 0 h, hex_bytes_append) (ap (λ (r : List ℕ). hex_bytes (take i bytes) ++ r) (append-nil (hex 2 (get_or bytes i 0))))

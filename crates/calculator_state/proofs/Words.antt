-- The words of a run and the registers that they stand for: one read, one written, and copied one after the other. Assumes nothing.
use mathlib.Core.Path.{◌≡◌, refl, ap}
use mathlib.Core.List.{List, [], ◌∷◌, map}
use Prim.Native.Nat.{ℕ, zero, suc, ◌+◌, ◌*◌, ◌^◌, ◌<◌}
use native.Mathlib.Omega.{arith}
use native.Mathlib.Nat.{add-zero}
use native.Mathlib.Numerals.{add-one}
use lib.ListN.{length, get_or, set, take}
use lib.Seq.{take-suc, take-suc-set}
use Rattle.calculator_state.specs.State.{vectors}

pub read : (w : List ℕ) (i : ℕ) → get_or w (2 * i) 0 + 2 ^ 64 * get_or w (2 * i + 1) 0 ≡ get_or (vectors w) i 0
read [] i = refl
read (lo ∷ []) zero = add-zero lo
read (lo ∷ []) (suc i) =
    let e : 2 * suc i ≡ suc (2 * i + 1) = omega arith in
    let f : 2 * suc i + 1 ≡ suc (2 * i + 2) = omega arith in
    rw (f, e)
read (lo ∷ hi ∷ ws) zero = refl
read (lo ∷ hi ∷ ws) (suc i) =
    let e : 2 * suc i ≡ suc (suc (2 * i)) = omega arith in
    let f : 2 * suc i + 1 ≡ suc (suc (2 * i + 1)) = omega arith in
    rw (f, e) (read ws i)

pub wrote : (w : List ℕ) (i lo hi : ℕ) → 2 * i + 1 < length w → vectors (set (set w (2 * i) lo) (2 * i + 1) hi) ≡ set (vectors w) i (lo + 2 ^ 64 * hi)
wrote [] i lo hi h = absurd (omega arith)
wrote (a ∷ []) i lo hi h = absurd (omega arith)
wrote (a ∷ b ∷ ws) zero lo hi h = refl
wrote (a ∷ b ∷ ws) (suc i) lo hi h =
    let e : 2 * suc i ≡ suc (suc (2 * i)) = omega arith in
    let f : 2 * suc i + 1 ≡ suc (suc (2 * i + 1)) = omega arith in
    rw (f, e) (ap (λ (vs : List ℕ). (a + 2 ^ 64 * b) ∷ vs) (wrote ws i lo hi (omega arith)))

pub half : (n : ℕ) (w : List ℕ) → length w ≡ 2 * n → length (vectors w) ≡ n
half zero [] h = refl
half zero (a ∷ []) h = absurd (omega arith)
half zero (a ∷ b ∷ ws) h = absurd (omega arith)
half (suc n) [] h = absurd (omega arith)
half (suc n) (a ∷ []) h = absurd (omega arith)
half (suc n) (a ∷ b ∷ ws) h = ap suc (half n ws (omega arith))

-- one turn of copying a list
pub copied : (s t : List ℕ) (i : ℕ) → i < length s → i < length t → take i s ≡ take i t → take (i + 1) (set s i (get_or t i 0)) ≡ take (i + 1) t
copied s t i h k e = rw (add-one, take-suc-set s i (get_or t i 0) h, take-suc t i 0 k, e)

-- a store in a list and what a map makes of it
pub map_set : {A B : Type 0} (f : A → B) (l : List A) (i : ℕ) (x : A) → map f (set l i x) ≡ set (map f l) i (f x)
map_set f [] i x = refl
map_set f (a ∷ l) zero x = refl
map_set f (a ∷ l) (suc i) x = ap (λ (t : List _). f a ∷ t) (map_set f l i x)

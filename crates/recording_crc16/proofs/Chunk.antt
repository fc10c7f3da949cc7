-- Sixteen bits or fewer go into the register at once, as the number that they spell. Assumes nothing.
use mathlib.Core.Path.{◌≡◌, refl, sym, ap, ◌∙◌, subst}
use mathlib.Core.Bool.{Bool, true, false}
use mathlib.Core.List.{List, [], ◌∷◌, ◌++◌}
use Prim.Native.Nat.{ℕ, suc, ◌+◌, ◌*◌, ◌^◌, ◌<◌}
use native.Mathlib.Nat.{add-mul, one-mul, zero-mul, mul_assoc, pow-suc}
use native.Mathlib.Omega.{arith}
use lib.Dec.{lit<}
use lib.Pow.{pow-add, shl_lt}
use lib.ListN.{length}
use Rattle.recording_crc16.specs.Remainder.{◌⊕◌, top, shift, step, run}
use Rattle.recording_crc16.specs.Powers.{times}
use Rattle.recording_crc16.proofs.Xor.{⊕-assoc, ⊕-shifted, 0-⊕, ⊕-0}
use Rattle.recording_crc16.proofs.Shift.{shift-⊕, shift_lt, shift_small}

abbrev pub bit : Bool → ℕ
bit true = 1
bit false = 0

-- the number that bits spell, top bit first
unfoldable pub number : List Bool → ℕ
number [] = 0
number (b ∷ bs) = bit b * 2 ^ length bs + number bs

pub run_append : (xs ys : List Bool) (r : ℕ) → run r (xs ++ ys) ≡ run (run r xs) ys
unfolding run
run_append [] ys r = refl
run_append (x ∷ xs) ys r = run_append xs ys (step r x)

pub run_lt : (bs : List Bool) (r : ℕ) → r < 65536 → run r bs < 65536
unfolding run step
run_lt [] r h = h
run_lt (b ∷ bs) r h = run_lt bs (step r b) (shift_lt (r ⊕ top b))

pub number_lt : (bs : List Bool) → number bs < 2 ^ length bs
unfolding number
number_lt [] = lit< tt
number_lt (true ∷ bs) = rw pow-suc (omega (arith, number_lt bs))
number_lt (false ∷ bs) = rw pow-suc (omega (arith, number_lt bs))

step_in : (r : ℕ) (b : Bool) (z : ℕ) → step r b ⊕ shift z ≡ shift (r ⊕ (top b ⊕ z))
unfolding step
step_in r b z = sym (shift-⊕ (r ⊕ top b) z) ∙ ap shift (⊕-assoc r (top b) z)

-- a bit and the number below it, moved up by k places
placed : (b : Bool) (m k v : ℕ) → m + k ≡ 15 → v * 2 ^ k < 32768 → top b ⊕ (v * 2 ^ k) ≡ (bit b * 2 ^ m + v) * 2 ^ k
placed true m k v e h =
    let p : 1 * 2 ^ m * 2 ^ k ≡ 32768 =
    ap (λ (x : ℕ). x * 2 ^ k) (one-mul (2 ^ m)) ∙ sym (pow-add 2 m k) ∙ ap (λ (n : ℕ). 2 ^ n) e in
    ⊕-shifted 1 15 (v * 2 ^ k) h ∙ sym (add-mul (1 * 2 ^ m) v (2 ^ k) ∙ ap (λ (x : ℕ). x + v * 2 ^ k) p)
placed false m k v e h = 0-⊕ (v * 2 ^ k) ∙ ap (λ (x : ℕ). x * 2 ^ k) (omega (arith, zero-mul (2 ^ m)))

pub run_chunk : (bs : List Bool) (k r : ℕ) → k + length bs ≡ 16 → run r bs ≡ times (length bs) (r ⊕ (number bs * 2 ^ k))
unfolding run number times
run_chunk [] k r e = sym (ap (λ (x : ℕ). r ⊕ x) (zero-mul (2 ^ k)) ∙ ⊕-0 r)
run_chunk (b ∷ bs) k r e =
    let m : ℕ = length bs in
    let z : ℕ = number bs * 2 ^ k in
    let mk : m + k ≡ 15 = omega arith in
    let small : z < 32768 = subst (λ (n : ℕ). z < 2 ^ n) mk (shl_lt m k (number_lt bs)) in
    let up : number bs * 2 ^ suc k ≡ shift z =
    ap (λ (x : ℕ). number bs * x) (pow-suc 2 k) ∙ sym (mul_assoc (number bs) (2 ^ k) 2) ∙ sym (shift_small z small) in
    run_chunk bs (suc k) (step r b) (omega arith)
    ∙ ap (times m)
    (ap (λ (x : ℕ). step r b ⊕ x) up ∙ step_in r b z ∙ ap (λ (x : ℕ). shift (r ⊕ x)) (placed b m k (number bs) mk small))

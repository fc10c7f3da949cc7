-- What a flipped bit does to the register, and that a bit flipped twice is as it was. Assumes nothing.
use mathlib.Core.Path.{◌≡◌, refl, sym, ap, ◌∙◌}
use mathlib.Core.Bool.{Bool, true, false, not}
use mathlib.Core.List.{List, [], ◌∷◌}
use Prim.Native.Nat.{ℕ, zero, suc, ◌-◌, ◌<◌}
use native.Mathlib.Nat.{not-suc-le-zero, le_of_suc-le-suc, sub-zero, suc-sub-suc}
use lib.ListN.{length}
use Rattle.recording_crc16.specs.Remainder.{◌⊕◌, top, shift, step, run}
use Rattle.recording_crc16.specs.Powers.{times}
use Rattle.recording_crc16.proofs.Xor.{⊕-assoc, sums}
use Rattle.recording_crc16.proofs.Shift.{shift-⊕}
use Rattle.recording_mending_rules.proofs.Bits.{flip}

step-⊕ : (r d : ℕ) (b : Bool) → step (r ⊕ d) b ≡ step r b ⊕ shift d
unfolding step
step-⊕ r d b =
    let e : (r ⊕ d) ⊕ top b ≡ (r ⊕ top b) ⊕ d = simp sums in
    ap shift e ∙ shift-⊕ (r ⊕ top b) d

-- the run is linear in the register
pub run-⊕ : (bs : List Bool) (r d : ℕ) → run (r ⊕ d) bs ≡ run r bs ⊕ times (length bs) d
unfolding run times
run-⊕ [] r d = refl
run-⊕ (b ∷ bs) r d = ap (λ (x : ℕ). run x bs) (step-⊕ r d b) ∙ run-⊕ bs (step r b) (shift d)

top_not : (b : Bool) → top (not b) ≡ top b ⊕ 32768
unfolding ◌⊕◌
top_not true = refl
top_not false = refl

step_not : (r : ℕ) (b : Bool) → step r (not b) ≡ step r b ⊕ shift 32768
unfolding step
step_not r b =
    ap (λ (x : ℕ). shift (r ⊕ x)) (top_not b) ∙ ap shift (sym (⊕-assoc r (top b) 32768)) ∙ shift-⊕ (r ⊕ top b) 32768

-- bit k of n: the register changes by x to the n - k, times 2^15
pub run_flip : (k : ℕ) (bs : List Bool) (r : ℕ) → k < length bs → run r (flip k bs) ≡ run r bs ⊕ times (length bs - k) 32768
unfolding run flip times
run_flip k [] r h = absurd (not-suc-le-zero h)
run_flip zero (b ∷ bs) r h =
    ap (λ (x : ℕ). run x bs) (step_not r b) ∙ run-⊕ bs (step r b) (shift 32768)
    ∙ ap (λ (n : ℕ). run (step r b) bs ⊕ times n 32768) (sym (sub-zero (suc (length bs))))
run_flip (suc k) (b ∷ bs) r h =
    run_flip k bs (step r b) (le_of_suc-le-suc h)
    ∙ ap (λ (n : ℕ). run (step r b) bs ⊕ times n 32768) (sym (suc-sub-suc (length bs) k))

pub length_flip : (k : ℕ) (bs : List Bool) → length (flip k bs) ≡ length bs
unfolding flip
length_flip k [] = refl
length_flip zero (b ∷ bs) = refl
length_flip (suc k) (b ∷ bs) = ap suc (length_flip k bs)

not_not : (b : Bool) → not (not b) ≡ b
not_not true = refl
not_not false = refl

pub flip_flip : (k : ℕ) (bs : List Bool) → flip k (flip k bs) ≡ bs
unfolding flip
flip_flip k [] = refl
flip_flip zero (b ∷ bs) = ap (λ (x : Bool). x ∷ bs) (not_not b)
flip_flip (suc k) (b ∷ bs) = ap (λ (l : List Bool). b ∷ l) (flip_flip k bs)

-- A right block of 4,096 bits with one bit flipped can be mended, and in one way only; with two flipped, no single flip makes it right. Assumes nothing.
use mathlib.Core.Path.{◌≡◌, sym, ap, ◌∙◌}
use mathlib.Core.Bool.{Bool}
use mathlib.Core.List.{List}
use Prim.Native.Nat.{ℕ, ◌-◌, ◌<◌}
use native.Mathlib.Omega.{arith}
use lib.ListN.{length}
use Rattle.recording_crc16.specs.Remainder.{◌⊕◌, run}
use Rattle.recording_crc16.specs.Powers.{times}
use Rattle.recording_crc16.proofs.Xor.{0-⊕, ⊕-same}
use Rattle.recording_mending_rules.proofs.Bits.{Right, flip}
use Rattle.recording_mending_rules.proofs.Apart.{apart}
use Rattle.recording_mending_rules.proofs.Flip.{run_flip, length_flip, flip_flip}
use Rattle.recording_mending_rules.proofs.Parity.{odd_flip, odd_flips}

-- what the register is after a right block with one bit flipped: the syndrome tells the bit
pub syndrome : (bs : List Bool) → length bs ≡ 4096 → Right bs → (k : ℕ) → k < 4096 → run 65535 (flip k bs) ≡ times (4096 - k) 32768
unfolding Right
syndrome bs n e k h =
    let k' : k < length bs = rw n h in
    run_flip k bs 65535 k' ∙ ap (λ (x : ℕ). x ⊕ times (length bs - k) 32768) e ∙ 0-⊕ (times (length bs - k) 32768)
    ∙ ap (λ (m : ℕ). times (m - k) 32768) n

-- two flips that make up for one another are the same
pub same_flip : (bs : List Bool) → length bs ≡ 4096 → Right bs → (j k : ℕ) → j < 4096 → k < 4096 → Right (flip k (flip j bs)) → j ≡ k
unfolding Right
same_flip bs n e j k hj hk f =
    let n' : length (flip j bs) ≡ 4096 = length_flip j bs ∙ n in
    let k' : k < length (flip j bs) = rw n' hk in
    let z : times (4096 - j) 32768 ⊕ times (4096 - k) 32768 ≡ 0 =
    ap (λ (x : ℕ). x ⊕ times (4096 - k) 32768) (sym (syndrome bs n e j hj))
    ∙ ap (λ (m : ℕ). run 65535 (flip j bs) ⊕ times (m - k) 32768) (sym n')
    ∙ sym (run_flip k (flip j bs) 65535 k') ∙ f in
    let q : 4096 - j ≡ 4096 - k = apart (4096 - j) (4096 - k) (omega arith) (omega arith) (⊕-same (times (4096 - j) 32768) (times (4096 - k) 32768) z) in
    omega arith

-- one bit flipped: the block is not right, the flip of that bit gives the block that was sent, and no other single flip gives a right one
pub one_flip : (bs : List Bool) → length bs ≡ 4096 → Right bs → (j : ℕ) → j < 4096
    → (Right (flip j bs) → ⊥) × (flip j (flip j bs) ≡ bs) × ((k : ℕ) → k < 4096 → Right (flip k (flip j bs)) → j ≡ k)
one_flip bs n e j h =
    (odd_flip j bs (rw n h) e, flip_flip j bs, λ k hk f. same_flip bs n e j k h hk f)

-- two bits flipped: the block is not right, and no single flip makes it right
pub two_flips : (bs : List Bool) → length bs ≡ 4096 → Right bs → (i j : ℕ) → i < 4096 → j < 4096 → (i ≡ j → ⊥)
    → (Right (flip j (flip i bs)) → ⊥) × ((k : ℕ) → k < 4096 → Right (flip k (flip j (flip i bs))) → ⊥)
two_flips bs n e i j hi hj ne =
    (λ f. ne (same_flip bs n e i j hi hj f), λ k hk f. odd_flips i j k bs (rw n hi) (rw n hj) (rw n hk) e f)

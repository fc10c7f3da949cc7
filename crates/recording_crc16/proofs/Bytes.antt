-- A byte goes into the register at once. Assumes nothing.
use mathlib.Core.Path.{◌≡◌, refl, sym, ap, ap₂, ◌∙◌}
use mathlib.Core.Bool.{Bool}
use mathlib.Core.List.{List, [], ◌∷◌, ◌++◌, append_assoc, append-nil}
use Prim.Native.Nat.{ℕ, zero, suc, ◌+◌, ◌*◌, ◌/◌, ◌%◌, ◌^◌, ◌<◌}
use native.Mathlib.Nat.{mod-lt, mod-one, mod-eq_of_lt}
use native.Mathlib.Omega.{arith}
use lib.Dec.{eqb, lit<}
use lib.Pow.{split, mod-pow-add}
use lib.ListN.{length, take, get_or}
use lib.Seq.{take-suc}
use Rattle.recording_crc16.specs.Remainder.{◌⊕◌, run, bits, spread}
use Rattle.recording_crc16.specs.Powers.{times}
use Rattle.recording_crc16.proofs.Xor.{⊕-assoc, ⊕-comm, ⊕-shifted, ⊕-shl}
use Rattle.recording_crc16.proofs.Shift.{times-⊕, times_small}
use Rattle.recording_crc16.proofs.Chunk.{bit, number, run_append, run_chunk}

pub length_bits : (k n : ℕ) → length (bits k n) ≡ k
unfolding bits
length_bits zero n = refl
length_bits (suc k) n = ap suc (length_bits k n)

bit_is : (t : ℕ) → t < 2 → bit (eqb t 1) ≡ t
bit_is zero h = refl
bit_is (suc zero) h = refl
bit_is (suc (suc t)) h = absurd (omega arith)

pub number_bits : (k n : ℕ) → number (bits k n) ≡ n % 2 ^ k
unfolding number bits
number_bits zero n = sym (mod-one n)
number_bits (suc k) n =
    ap₂ (λ (x y : ℕ). x * 2 ^ y + number (bits k n)) (bit_is (n / 2 ^ k % 2) (mod-lt (n / 2 ^ k) (lit< tt))) (length_bits k n)
    ∙ ap (λ (x : ℕ). n / 2 ^ k % 2 * 2 ^ k + x) (number_bits k n)
    ∙ sym (mod-pow-add n 1 k)
    ∙ ap (λ (m : ℕ). n % 2 ^ m) (omega arith)

-- eight bits at once
pub run_byte : (r x : ℕ) → x < 256 → run r (bits 8 x) ≡ times 8 (r ⊕ (x * 256))
run_byte r x h =
    run_chunk (bits 8 x) 8 r (ap (λ (k : ℕ). 8 + k) (length_bits 8 x))
    ∙ ap₂ (λ (k y : ℕ). times k (r ⊕ (y * 256))) (length_bits 8 x) (number_bits 8 x ∙ mod-eq_of_lt h)

-- the same by what eight steps make of a top byte: that of the register added to the byte, and the low byte moved up
pub run_top : (r x : ℕ) → r < 65536 → x < 256 → run r (bits 8 x) ≡ times 8 (((r / 256) ⊕ x) * 256) ⊕ (r % 256 * 256)
run_top r x hr hx =
    run_byte r x hx
    ∙ ap (λ (y : ℕ). times 8 (y ⊕ (x * 256))) (sym (split r 8) ∙ sym (⊕-shifted (r / 256) 8 (r % 256) low))
    ∙ ap (times 8) regroup
    ∙ times-⊕ 8 (((r / 256) ⊕ x) * 256) (r % 256)
    ∙ ap (λ (y : ℕ). times 8 (((r / 256) ⊕ x) * 256) ⊕ y) (times_small 8 (r % 256) (omega arith))
  where
    low : r % 256 < 256
    low = mod-lt r (lit< tt)

    regroup : ((r / 256 * 256) ⊕ (r % 256)) ⊕ (x * 256) ≡ (((r / 256) ⊕ x) * 256) ⊕ (r % 256)
    regroup =
        ⊕-assoc (r / 256 * 256) (r % 256) (x * 256)
        ∙ ap (λ (y : ℕ). (r / 256 * 256) ⊕ y) (⊕-comm (r % 256) (x * 256))
        ∙ sym (⊕-assoc (r / 256 * 256) (x * 256) (r % 256))
        ∙ ap (λ (y : ℕ). y ⊕ (r % 256)) (sym (⊕-shl 8 (r / 256) x))

spread_append : (xs ys : List ℕ) → spread (xs ++ ys) ≡ spread xs ++ spread ys
unfolding spread
spread_append [] ys = refl
spread_append (x ∷ xs) ys = ap (λ (l : List Bool). bits 8 x ++ l) (spread_append xs ys) ∙ sym (append_assoc (bits 8 x) (spread xs) (spread ys))

spread_one : (x : ℕ) → spread (x ∷ []) ≡ bits 8 x
unfolding spread
spread_one x = append-nil (bits 8 x)

-- one byte more
pub run_next : (s : List ℕ) (i r : ℕ) → i < length s → run r (spread (take (suc i) s)) ≡ run (run r (spread (take i s))) (bits 8 (get_or s i 0))
run_next s i r h =
    ap (λ (l : List ℕ). run r (spread l)) (take-suc s i 0 h)
    ∙ ap (run r) (spread_append (take i s) (get_or s i 0 ∷ []) ∙ ap (λ (l : List Bool). spread (take i s) ++ l) (spread_one (get_or s i 0)))
    ∙ run_append (spread (take i s)) (bits 8 (get_or s i 0)) r

-- A block as the list of its bits, in the order in which they come: what a right check is, and a flipped bit. Assumes nothing.
use mathlib.Core.Path.{◌≡◌, sym, ap, ◌∙◌, subst}
use mathlib.Core.Bool.{Bool, not}
use mathlib.Core.Logic.{◌↔◌}
use mathlib.Core.List.{List, [], ◌∷◌}
use Prim.Native.Nat.{ℕ, zero, suc, ◌-◌, ◌^◌, ◌<◌}
use native.Mathlib.Nat.{zero-add, mul-one}
use lib.Dec.{lit<}
use lib.ListN.{length, take, drop, take-append-drop, length-drop}
use Rattle.recording_crc16.specs.Remainder.{◌⊕◌, run}
use Rattle.recording_crc16.specs.Powers.{times}
use Rattle.recording_crc16.proofs.Xor.{⊕-lt, ⊕-same, ⊕-self}
use Rattle.recording_crc16.proofs.Shift.{times_0, times_kernel}
use Rattle.recording_crc16.proofs.Chunk.{number, number_lt, run_append, run_lt, run_chunk}

-- the last sixteen of the 4,096 bits spell the check of those before them
unfoldable pub Checked : List Bool → Type 0
Checked bs = run 65535 (take 4080 bs) ≡ number (drop 4080 bs)

-- the same in one: nothing is left after all of the bits
unfoldable pub Right : List Bool → Type 0
Right bs = run 65535 bs ≡ 0

-- bit k, counted from the first, is the other
unfoldable pub flip : ℕ → List Bool → List Bool
flip k [] = []
flip zero (b ∷ bs) = not b ∷ bs
flip (suc k) (b ∷ bs) = b ∷ flip k bs

-- the register after sixteen bits is 0 where they spell what it was before
run_zero : (bs : List Bool) (r : ℕ) → length bs ≡ 16 → r < 65536 → (run r bs ≡ 0) ↔ (r ≡ number bs)
run_zero bs r n h = (
  λ e. ⊕-same r (number bs) (times_kernel (length bs) (r ⊕ number bs) (⊕-lt 16 r (number bs) h small) (sym all ∙ e)),
  λ e. all ∙ ap (times (length bs)) (ap (λ (x : ℕ). x ⊕ number bs) e ∙ ⊕-self (number bs)) ∙ times_0 (length bs),
)
  where
    small : number bs < 65536
    small = subst (λ (k : ℕ). number bs < 2 ^ k) n (number_lt bs)

    all : run r bs ≡ times (length bs) (r ⊕ number bs)
    all =
        run_chunk bs 0 r (zero-add (length bs) ∙ n)
        ∙ ap (λ (x : ℕ). times (length bs) (r ⊕ x)) (mul-one (number bs))

pub checked_right : (bs : List Bool) → length bs ≡ 4096 → Checked bs ↔ Right bs
unfolding Checked Right
checked_right bs n = (
  λ e. whole ∙ (run_zero (drop 4080 bs) (run 65535 (take 4080 bs)) tail fits).1 e,
  λ e. (run_zero (drop 4080 bs) (run 65535 (take 4080 bs)) tail fits).0 (sym whole ∙ e),
)
  where
    whole : run 65535 bs ≡ run (run 65535 (take 4080 bs)) (drop 4080 bs)
    whole = ap (run 65535) (sym (take-append-drop 4080 bs)) ∙ run_append (take 4080 bs) (drop 4080 bs) 65535

    tail : length (drop 4080 bs) ≡ 16
    tail = length-drop 4080 bs ∙ ap (λ (k : ℕ). k - 4080) n

    fits : run 65535 (take 4080 bs) < 65536
    fits = run_lt (take 4080 bs) 65535 (lit< tt)

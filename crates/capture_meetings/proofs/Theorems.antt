-- What a station can rely on, over the definition alone. Assumes nothing.
use mathlib.Core.Path.{◌≡◌, refl, sym, ap, ◌∙◌}
use mathlib.Core.Bool.{Bool, true, false, cond}
use mathlib.Core.List.{List, [], ◌∷◌, ◌++◌, append_assoc, append-nil}
use Prim.Native.Nat.{ℕ, zero, suc, ◌+◌, ◌-◌, ◌≤◌, zero-le}
use native.Mathlib.Omega.{arith}
use borrow.Author.Tests.{ne_eqb}
use lib.Dec.{ltb}
use lib.ListN.{length, take, drop, length-drop}
use lib.Seq.{drop-drop}
use Rattle.finder_windows.specs.Definition.{bits, marker_bits, stands, refusal, first_from, find, barred}
use Rattle.finder_windows.proofs.Refusals.{admitted, find_searched}
use Rattle.capture_meetings.specs.Meetings.{Meeting, met, all_from, places, meetings, shift, segment, first_of, any, ending}
use Rattle.capture_meetings.proofs.Laws.{shift_none, shift_zero, shift_shift, shift_append, cut, carry}

-- pieces, one after the other
unfoldable pub joined : List (List ℕ) → List ℕ
joined [] = []
joined (y ∷ ys) = y ++ joined ys

module _ (m : List ℕ) (t L : ℕ) where
  -- ---- pieces

  -- what is carried over from what has come so far
  abbrev pub carried : List ℕ → List ℕ
  carried x = drop (places L (length x)) x

  -- Pieces searched as they come, with the carried bits in front of each: k bits of the capture lie before them.
  unfoldable pub scanned : List ℕ → ℕ → List (List ℕ) → List Meeting
  scanned history k [] = []
  scanned history k (y ∷ ys) =
      shift k (meetings (history ++ y) m t L) ++ scanned (carried (history ++ y)) (k + places L (length (history ++ y))) ys

  -- at most L + 31 bits are carried
  pub carried_few : (x : List ℕ) → length (carried x) ≤ L + 31
  carried_few x = simp length-drop (omega arith)

  -- nothing is met in what is carried
  carried_quiet : (x : List ℕ) → length x ≤ L + 31 → meetings x m t L ≡ []
  unfolding meetings all_from
  carried_quiet x h =
      let none : length x - (L + 31) ≡ 0 = omega arith in
      rw none

  scanned_on : (history : List ℕ) (k : ℕ) (ys : List (List ℕ)) → length history ≤ L + 31
      → scanned history k ys ≡ shift k (meetings (history ++ joined ys) m t L)
  unfolding scanned joined
  scanned_on history k [] h = sym (rw (append-nil history, carried_quiet history h) (shift_none k))
  scanned_on history k (y ∷ ys) h =
      ap (λ (z : List Meeting). shift k (meetings (history ++ y) m t L) ++ z)
      (scanned_on (carried (history ++ y)) (k + places L (length (history ++ y))) ys (carried_few (history ++ y))
      ∙ sym (shift_shift k (places L (length (history ++ y))) (meetings (carried (history ++ y) ++ joined ys) m t L)))
      ∙ sym (shift_append k _ _)
      ∙ ap (shift k) (sym (carry m t L (history ++ y) (joined ys)) ∙ ap (λ (z : List ℕ). meetings z m t L) (append_assoc history y (joined ys)))

  -- However a capture is cut into pieces, empty ones too, what is met in them is what is met in the whole.
  pub pieces : (ys : List (List ℕ)) → scanned [] 0 ys ≡ meetings (joined ys) m t L
  pieces ys = scanned_on [] 0 ys zero-le ∙ shift_zero _

  -- ---- segments

  -- Segments that follow each other: the first begins at the k-th bit, each has as many positions as its width says, and the last all that are left.
  unfoldable pub in_segments : List ℕ → ℕ → List ℕ → List Meeting
  in_segments s k [] = shift k (meetings (drop k s) m t L)
  in_segments s k (w ∷ ws) = segment s m t L k w ++ in_segments s (k + w) ws

  segments_on : (s : List ℕ) (k : ℕ) (ws : List ℕ) → in_segments s k ws ≡ shift k (meetings (drop k s) m t L)
  unfolding in_segments segment
  segments_on s k [] = refl
  segments_on s k (w ∷ ws) =
      ap (λ (z : List Meeting). shift k (meetings (take (w + (L + 31)) (drop k s)) m t L) ++ z)
      (segments_on s (k + w) ws ∙ ap (λ (z : List ℕ). shift (k + w) (meetings z m t L)) (sym (drop-drop w k s))
      ∙ sym (shift_shift k w (meetings (drop w (drop k s)) m t L)))
      ∙ sym (shift_append k _ _)
      ∙ ap (shift k) (sym (cut m t L (drop k s) w))

  -- The cut law: the whole is the segments' meetings, one list after the other, for any widths.
  pub segments : (s : List ℕ) (ws : List ℕ) → in_segments s 0 ws ≡ meetings s m t L
  segments s ws = segments_on s 0 ws ∙ shift_zero _

  -- ---- the finder

  pub first_is : (s : List ℕ) (n p : ℕ) → first_from s m t L n p ≡ first_of (all_from s m t L n p)
  unfolding first_from all_from
  first_is s zero p = refl
  first_is s (suc n) p = by (stands s m t L p) refl (first_is s n (p + 1))
    where
      by : (b : Bool) → stands s m t L p ≡ b → first_from s m t L n (p + 1) ≡ first_of (all_from s m t L n (p + 1))
          → first_from s m t L (suc n) p ≡ first_of (all_from s m t L (suc n) p)
      by true e rest = rw e
      by false e rest = rw e rest

-- What the finder answers, where it does not refuse with 8, 9 or 10, is the first of them.
pub finder_first : (buffer : List ℕ) (marker t L : ℕ) → refusal buffer t L ≡ 0 → find buffer marker t L
    ≡ first_of (meetings (bits buffer) (marker_bits marker) t L)
unfolding meetings
finder_first buffer marker t L e =
    let room = (admitted buffer t L e).room in
    let count : suc (length (bits buffer) - (L + 32)) ≡ length (bits buffer) - (L + 31) = omega arith in
    find_searched buffer marker t L e ∙ rw count (first_is (marker_bits marker) t L (bits buffer) (length (bits buffer) - (L + 31)) 0)

-- ---- in order, each once

-- the positions rise, and none is below p
pub data Rising : ℕ → List Meeting → Type 0 where
  none : {p : ℕ} → Rising p []
  next : {p q d e : ℕ} {ms : List Meeting} → p ≤ q → Rising (q + 1) ms → Rising p (met q d e ∷ ms)

rising_from : {p q : ℕ} (ms : List Meeting) → p ≤ q → Rising q ms → Rising p ms
rising_from [] h none = none
rising_from {p} (met r d e ∷ ms) h (next k rest) =
    let low : p ≤ r = omega arith in
    next low rest

all_rising : (s m : List ℕ) (t L n p : ℕ) → Rising p (all_from s m t L n p)
unfolding all_from
all_rising s m t L zero p = none
all_rising s m t L (suc n) p = by (stands s m t L p) refl (all_rising s m t L n (p + 1))
  where
    by : (b : Bool) → stands s m t L p ≡ b → Rising (p + 1) (all_from s m t L n (p + 1)) → Rising p (all_from s m t L (suc n) p)
    by true e rest =
        let low : p ≤ p = omega arith in
        rw e (next low rest)
    by false e rest = rw e (rising_from _ (omega arith) rest)

pub rising : (s m : List ℕ) (t L : ℕ) → Rising 0 (meetings s m t L)
unfolding meetings
rising s m t L = all_rising s m t L (places L (length s)) 0

-- ---- what a scan ends with

-- 8 and 9 are given whatever the capture
pub ends_barred : {n : ℕ} (s m : List ℕ) (t L : ℕ) → n ≡ barred t L → (n ≡ 0 → ⊥) → n ≡ ending s m t L
unfolding ending
ends_barred s m t L e h = rw (← e) (rw (ne_eqb _ 0 h))

pub ends_open : (s m : List ℕ) (t L : ℕ) → barred t L ≡ 0 → ending s m t L ≡ cond (ltb (length s) (L + 32)) 10 (cond (any (meetings s m t L)) 0 11)
unfolding ending
ends_open s m t L e = rw e

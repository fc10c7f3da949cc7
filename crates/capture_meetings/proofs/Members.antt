-- Which meetings are in the lists: exactly those that the finder's definition has. Assumes nothing.
use mathlib.Core.Path.{◌≡◌, refl, sym, ap, ◌∙◌}
use mathlib.Core.Bool.{Bool, true, false, true≢false}
use mathlib.Core.List.Memᴰ
use mathlib.Core.List.{List, [], ◌∷◌, ◌++◌, Memᴰ}
use mathlib.Core.Logic.{◌⊎◌, inl, inr, ⊎_elim}
use Prim.Native.Nat.{ℕ, zero, suc, ◌+◌, ◌<◌, ◌≤◌, zero-le}
use native.Mathlib.Nat.{add-zero}
use native.Mathlib.Omega.{arith}
use borrow.Author.Tests.{ltb-true, ltb-false}
use lib.Dec.{ltb}
use lib.ListN.{length, take, drop, length-take, length-drop, take-append-drop}
use Rattle.finder_windows.specs.Definition.{window, distance, stands}
use Rattle.capture_meetings.specs.Meetings.{Meeting, met, all_from, places, meetings, shift, segment}
use Rattle.capture_meetings.proofs.Laws.{window_before, window_after, agree}

-- The marker is met at q, one of the n positions from p on, and these are its distances.
pub record Met (s m : List ℕ) (t L n p q d e : ℕ) : Type 0 where
  pub low : p ≤ q
  pub high : q < p + n
  pub meets : stands s m t L q ≡ true
  pub first : d ≡ distance (window s q) m
  pub second : e ≡ distance (window s (q + L)) m

module _ (s m : List ℕ) (t L : ℕ) where
  pub only : (n p q d e : ℕ) → Memᴰ (met q d e) (all_from s m t L n p) → Met s m t L n p q d e
  unfolding all_from
  only zero p q d e h = absurd (Memᴰ.not-nil h)
  only (suc n) p q d e h = by (stands s m t L p) refl (only n (p + 1) q d e)
    where
      by : (b : Bool) → stands s m t L p ≡ b → (Memᴰ (met q d e) (all_from s m t L n (p + 1)) → Met s m t L n (p + 1) q d e)
          → Met s m t L (suc n) p q d e
      by true st rest =
          ⊎_elim
          (λ (same : met q d e ≡ met p (distance (window s p) m) (distance (window s (p + L)) m)).
          let here : q ≡ p = cc in
          record {
            low = omega arith;
            high = omega arith;
            meets = rw here st;
            first = rw here (cc);
            second = rw here (cc);
          })
          (λ later. let r = rest later in record {
            low = omega (arith, r.low);
            high = omega
                (arith, r.high);
            meets = r.meets;
            first = r.first;
            second = r.second;
          })
          (Memᴰ.cases_cons (rw st at h))
      by false st rest =
          let r = rest (rw st at h) in
          record { low = omega (arith, r.low); high = omega (arith, r.high); meets = r.meets; first = r.first; second = r.second }

  pub every : (n p q : ℕ) → p ≤ q → q < p + n → stands s m t L q ≡ true
      → Memᴰ (met q (distance (window s q) m) (distance (window s (q + L)) m)) (all_from s m t L n p)
  unfolding all_from
  every zero p q l h st = absurd (omega arith)
  every (suc n) p q l h st = by (stands s m t L p) refl (ltb p q) refl (λ e. every n (p + 1) q (omega (arith, ltb-true p q e)) (omega arith) st)
    where
      wanted : Meeting
      wanted = met q (distance (window s q) m) (distance (window s (q + L)) m)

      by : (b : Bool) → stands s m t L p ≡ b → (c : Bool) → ltb p q ≡ c → (ltb p q ≡ true → Memᴰ wanted (all_from s m t L n (p + 1)))
          → Memᴰ wanted (all_from s m t L (suc n) p)
      by true e true f later = rw e (Memᴰ.tail (later f))
      by true e false f later =
          let here : q ≡ p = omega (arith, ltb-false p q f) in
          let same : wanted ≡ met p (distance (window s p) m) (distance (window s (p + L)) m) = rw here in
          rw e (Memᴰ.head same)
      by false e true f later = rw e (later f)
      by false e false f later =
          let here : p ≡ q = omega (arith, ltb-false p q f) in
          absurd (true≢false (sym st ∙ rw here at e))

  -- ---- shifted lists

  pub shifted : (k p d e : ℕ) (ms : List Meeting) → Memᴰ (met p d e) ms → Memᴰ (met (k + p) d e) (shift k ms)
  unfolding shift
  shifted k p d e [] h = absurd (Memᴰ.not-nil h)
  shifted k p d e (met q f g ∷ ms) h =
      ⊎_elim (λ (same : met p d e ≡ met q f g). Memᴰ.head (cc)) (λ later. Memᴰ.tail (shifted k p d e ms later)) (Memᴰ.cases_cons h)

  -- ---- the whole

  -- A meeting is in the list exactly where both windows are inside the capture and the marker is met there, and these are its distances.
  pub member_met : (p d e : ℕ) → Memᴰ (met p d e) (meetings s m t L) → Met s m t L (places L (length s)) 0 p d e
  unfolding meetings
  member_met p d e h = only (places L (length s)) 0 p d e h

  pub met_member : (p d e : ℕ) → Met s m t L (places L (length s)) 0 p d e → Memᴰ (met p d e) (meetings s m t L)
  unfolding meetings
  met_member p d e h =
      let same : met p d e ≡ met p (distance (window s p) m) (distance (window s (p + L)) m) = cc (h.first, h.second) in
      Memᴰ.cast same (every (places L (length s)) 0 p zero-le h.high h.meets)

  -- ---- segments

  -- how many positions of the capture a segment has
  abbrev pub width : ℕ → ℕ → ℕ
  width k w = places L (length (take (w + (L + 31)) (drop k s)))

  pub segment_is : (k w : ℕ) → segment s m t L k w ≡ all_from s m t L (width k w) k
  unfolding segment meetings all_from shift
  segment_is k w = by (width k w) refl
    where
      by : (n : ℕ) → n ≡ width k w → shift k (all_from (take (w + (L + 31)) (drop k s)) m t L n 0) ≡ all_from s m t L n k
      by zero e = refl
      by (suc n) e =
          sym (rw (add-zero k) at
          (agree m t L s (take (w + (L + 31)) (drop k s)) k (suc n) 0
          (λ q a b.
          sym (window_after s k q)
          ∙ ap (λ (z : List ℕ). window z q) (sym (take-append-drop (w + (L + 31)) (drop k s)))
          ∙ window_before (take (w + (L + 31)) (drop k s)) (drop (w + (L + 31)) (drop k s)) q (omega arith))))

  -- A segment's meetings are exactly the whole's at the segment's own positions.
  pub segment_member : (k w p d e : ℕ) → Memᴰ (met p d e) (segment s m t L k w)
      → (Memᴰ (met p d e) (meetings s m t L)) × (k ≤ p) × (p < k + w)
  segment_member k w p d e h =
      let r = only (width k w) k p d e (rw (segment_is k w) at h) in
      let size = length-take (w + (L + 31)) (drop k s) in
      let rest = length-drop k s in (
        met_member p d e
            (record { low = zero-le; high = omega (arith, r.low, r.high); meets = r.meets; first = r.first; second = r.second }),
        r.low,
        omega (arith, r.high),
      )

  pub member_segment : (k w p d e : ℕ) → Memᴰ (met p d e) (meetings s m t L) → k ≤ p → p < k + w → Memᴰ (met p d e) (segment s m t L k w)
  member_segment k w p d e h l r =
      let here = member_met p d e h in
      let size = length-take (w + (L + 31)) (drop k s) in
      let rest = length-drop k s in
      let same : met p d e ≡ met p (distance (window s p) m) (distance (window s (p + L)) m) = cc (here.first, here.second) in
      rw (segment_is k w) (Memᴰ.cast same (every (width k w) k p l (omega (arith, here.high)) here.meets))

  -- ---- segments merged in any order

  -- the segments' meetings, one list after the other; a segment is the bit at which it begins and how many positions it has
  unfoldable pub merged : List (ℕ × ℕ) → List Meeting
  merged [] = []
  merged (kw ∷ rest) = segment s m t L kw.0 kw.1 ++ merged rest

  -- whether a position is in one of them
  abbrev pub Covered : ℕ → List (ℕ × ℕ) → Type 0
  Covered p [] = ⊥
  Covered p (kw ∷ rest) = ((kw.0 ≤ p) × (p < kw.0 + kw.1)) ⊎ Covered p rest

  -- In whatever order segments are merged, what is there is what the whole has at their positions: all of it where they cover the capture.
  pub merged_member : (segments : List (ℕ × ℕ)) (p d e : ℕ) → Memᴰ (met p d e) (merged segments)
      → (Memᴰ (met p d e) (meetings s m t L)) × Covered p segments
  unfolding merged
  merged_member [] p d e h = absurd (Memᴰ.not-nil h)
  merged_member (kw ∷ rest) p d e h =
      ⊎_elim
      (λ first. let r = segment_member kw.0 kw.1 p d e first in (r.0, inl (r.1, r.2)))
      (λ later. let r = merged_member rest p d e later in (r.0, inr r.1))
      (Memᴰ.append_cases (segment s m t L kw.0 kw.1) h)

  pub member_merged : (segments : List (ℕ × ℕ)) (p d e : ℕ) → Memᴰ (met p d e) (meetings s m t L) → Covered p segments
      → Memᴰ (met p d e) (merged segments)
  unfolding merged
  member_merged [] p d e h c = absurd c
  member_merged (kw ∷ rest) p d e h c =
      ⊎_elim
      (λ here. Memᴰ.append_left (merged rest) (member_segment kw.0 kw.1 p d e h here.0 here.1))
      (λ later. Memᴰ.append_right (segment s m t L kw.0 kw.1) (member_merged rest p d e h later))
      c

  -- A position is in one of two segments that do not overlap, and not in both.
  pub in_one : (k w j v p d e f g : ℕ) → k + w ≤ j → Memᴰ (met p d e) (segment s m t L k w) → Memᴰ (met p f g) (segment s m t L j v) → ⊥
  in_one k w j v p d e f g apart a b =
      let here = segment_member k w p d e a in
      let there = segment_member j v p f g b in
      omega (arith, here.2, there.1)

-- What a window and its three numbers stand for, from one call to the next. Assumes nothing.
use mathlib.Core.Path.{◌≡◌, refl, sym, ap, ◌∙◌}
use mathlib.Core.Bool.{Bool, true, false}
use mathlib.Core.List.{List, [], ◌∷◌, ◌++◌, append_assoc, append-nil}
use Prim.Native.Nat.{ℕ, zero, suc, ◌+◌, ◌-◌, ◌*◌, ◌/◌, ◌%◌, ◌<◌, ◌≤◌, zero-le}
use native.Mathlib.Nat.{zero-add}
use native.Mathlib.Omega.{arith}
use lib.ListN.{length, take, drop, length-append, length-drop, take-append-drop}
use lib.Seq.{drop_at, drop-drop, length-take-le, take_at, drop-append-le, paste, take-paste, length-paste}
use Rattle.finder_windows.specs.Definition.{bits, marker_bits, window, distance, found, refused, stands, first_from}
use Rattle.finder_windows.proofs.Bits.{bits_append, length_bits}
use Rattle.capture_meetings.specs.Meetings.{Meeting, met, all_from, places, meetings, shift, first_of}
use Rattle.capture_history.specs.State.{place, Stands, given, Told, Kept}
use Rattle.capture_history.specs.declared.Scan.{Scan}
use Rattle.capture_history.specs.declared.Next.{Next}
use Rattle.std.specs.Prelude.{Some, None}
use Rattle.capture_meetings.proofs.Laws.{shift_zero, window_before, window_after, parts, agree}
use Rattle.capture_meetings.proofs.Theorems.{first_is}

-- what `seek` answers: a meeting, or none
abbrev pub meets : ℕ → ℕ → ℕ → Scan → Next
meets p d e r = record { meeting = Some (record { position = p; first = d; second = e }); scan = r }

abbrev pub ends : Scan → Next
ends r = record { meeting = None; scan = r }

-- the bits of what is left of some bytes
pub bits_drop : (xs : List ℕ) (n : ℕ) → n ≤ length xs → bits (drop n xs) ≡ drop (8 * n) (bits xs)
bits_drop xs n h =
    sym (ap (λ (z : List ℕ). drop (8 * n) (bits z)) (sym (take-append-drop n xs)) ∙ ap (drop (8 * n)) (bits_append (take n xs) (drop n xs))
    ∙ drop_at (bits (take n xs)) (bits (drop n xs)) (8 * n) (omega (arith, length_bits (take n xs), length-take-le n xs h)))

first_none : {k : ℕ} (ms : List Meeting) → first_of ms ≡ refused k → ms ≡ []
first_none [] h = refl
first_none (met p d e ∷ ms) h = let z : ◌≡◌ {A = ℕ} 0 1 = cc in absurd (omega arith)

module _ (m : List ℕ) (t L : ℕ) where
  -- what the finder's search has found is the first of all
  pub record Head (s : List ℕ) (n p q d e : ℕ) : Type 0 where
    pub low : p ≤ q
    pub high : q < p + n
    pub only : all_from s m t L (q + 1 - p) p ≡ met q d e ∷ []

  pub head_of : (s : List ℕ) (n p q d e : ℕ) → first_from s m t L n p ≡ found q d e → Head s n p q d e
  unfolding first_from all_from
  head_of s zero p q d e h = let z : ◌≡◌ {A = ℕ} 0 1 = cc in absurd (omega arith)
  head_of s (suc n) p q d e h = by (stands s m t L p) refl (head_of s n (p + 1) q d e)
    where
      by : (b : Bool) → stands s m t L p ≡ b → (first_from s m t L n (p + 1) ≡ found q d e → Head s n (p + 1) q d e) → Head s (suc n) p q d e
      by true st rest =
          let here : found p (distance (window s p) m) (distance (window s (p + L)) m) ≡ found q d e = rw st at h in
          let same : p ≡ q = cc in
          let one : q + 1 - p ≡ 1 = omega arith in
          record { low = omega arith; high = omega arith; only = rw (one, st) (cc) }
      by false st rest =
          let later = rest (rw st at h) in
          let more : q + 1 - p ≡ suc (q + 1 - (p + 1)) = omega (arith, later.low) in
          record { low = omega (arith, later.low); high = omega (arith, later.high); only = rw (more, st) later.only }

  -- a capture X and a window W that has what is left of it after some bytes
  module _ (X W : List ℕ) (before from : ℕ) (fits : before ≤ length X) (tail : W ≡ drop before X) where
    -- what is met in the window, at its places in the capture
    pub over : (n p : ℕ) → all_from (bits X) m t L n (8 * before + p) ≡ shift (8 * before) (all_from (bits W) m t L n p)
    over n p =
        agree m t L (bits X) (bits W) (8 * before) n p
        (λ q a b. sym (ap (λ (z : List ℕ). window z q) (ap bits tail ∙ bits_drop X before fits) ∙ window_after (bits X) (8 * before) q))

    on : (n : ℕ) → all_from (bits X) m t L (8 * before + from + n) 0
        ≡ all_from (bits X) m t L (8 * before + from) 0 ++ shift (8 * before) (all_from (bits W) m t L n from)
    on n =
        parts m t L (bits X) (8 * before + from) n 0
        ∙ ap (λ (z : List Meeting). all_from (bits X) m t L (8 * before + from) 0 ++ z)
        (ap (all_from (bits X) m t L n) (zero-add (8 * before + from)) ∙ over n from)

    pub met_more : (n q d e : ℕ) → first_from (bits W) m t L n from ≡ found q d e
        → all_from (bits X) m t L (8 * before + (q + 1)) 0 ≡ all_from (bits X) m t L (8 * before + from) 0 ++ (met (8 * before + q) d e ∷ [])
    unfolding shift
    met_more n q d e h =
        let head = head_of (bits W) n from q d e h in
        let count : 8 * before + (q + 1) ≡ 8 * before + from + (q + 1 - from) = omega (arith, head.low) in
        rw count (on (q + 1 - from) ∙ ap (λ (z : List Meeting). all_from (bits X) m t L (8 * before + from) 0 ++ shift (8 * before) z) head.only)

    pub none_more : (k c : ℕ) → from ≤ c → first_from (bits W) m t L (c - from) from ≡ refused k
        → all_from (bits X) m t L (8 * before + c) 0 ≡ all_from (bits X) m t L (8 * before + from) 0
    unfolding shift
    none_more k c l h =
        let count : 8 * before + c ≡ 8 * before + from + (c - from) = omega arith in
        rw count
        (on (c - from)
        ∙ ap (λ (z : List Meeting). all_from (bits X) m t L (8 * before + from) 0 ++ shift (8 * before) z)
        (first_none (all_from (bits W) m t L (c - from) from) (sym (first_is m t L (bits W) (c - from) from) ∙ h))
        ∙ append-nil _)

  -- what has been given stays, whatever comes after
  pub grown : (X Y : List ℕ) (c : ℕ) → c ≤ places L (8 * length X) → all_from (bits (X ++ Y)) m t L c 0 ≡ all_from (bits X) m t L c 0
  unfolding all_from
  grown X Y zero h = refl
  grown X Y (suc c) h =
      agree m t L (bits (X ++ Y)) (bits X) 0 (suc c) 0
      (λ q a b. rw (zero-add q) (ap (λ (z : List ℕ). window z q) (bits_append X Y) ∙ window_before (bits X) (bits Y) q (omega (arith, length_bits X))))
      ∙ shift_zero _

module _ (m t L : ℕ) (X window : List ℕ) (s : Scan) (h : Stands L X window s) where
  -- every position has been searched
  pub complete : (r : Scan) → place r ≡ places L (8 * length X) → given m t L X r ≡ meetings (bits X) (marker_bits m) t L
  unfolding meetings
  complete r e =
      let count : place r ≡ places L (length (bits X)) = omega (arith, length_bits X) in
      ap (λ (n : ℕ). all_from (bits X) (marker_bits m) t L n 0) count

  pub told_met : (n q d e : ℕ) → n ≡ 8 * s.filled - (L + 31) - s.from → first_from (bits (take s.filled window)) (marker_bits m) t L n s.from
      ≡ found q d e
      → Told m t L X window s (meets (8 * s.before + q) d e (record { before = s.before; filled = s.filled; from = q + 1 }))
  told_met n q d e count f =
      let all = h.all in
      let head = head_of (marker_bits m) t L (bits (take s.filled window)) n s.from q d e f in (
        record {
          frame = h.frame;
          inside = h.inside;
          all = h.all;
          few = h.few;
          tail = h.tail;
          reached = omega (arith, head.low, head.high, h.reached);
        },
        met_more (marker_bits m) t L X (take s.filled window) s.before s.from (omega arith) h.tail n q d e f,
      )

  pub told_more : (n k : ℕ) → n ≡ 8 * s.filled - (L + 31) - s.from → s.from + (L + 31) ≤ 8 * s.filled
      → first_from (bits (take s.filled window)) (marker_bits m) t L n s.from ≡ refused k
      → Told m t L X window s (ends (record { before = s.before; filled = s.filled; from = 8 * s.filled - (L + 31) }))
  told_more n k count l f =
      let all = h.all in
      let r : Scan = record { before = s.before; filled = s.filled; from = 8 * s.filled - (L + 31) } in (
        record { frame = h.frame; inside = h.inside; all = h.all; few = h.few; tail = h.tail; reached = omega (arith, h.reached) },
        (
          none_more (marker_bits m) t L X (take s.filled window) s.before s.from (omega arith) h.tail k (8 * s.filled - (L + 31)) (omega arith)
              (rw count at f),
          complete r (omega arith),
          omega arith,
        ),
      )

  pub told_end : 8 * s.filled < L + 31 → Told m t L X window s (ends s)
  told_end l =
      let all = h.all in
      let none : place s ≡ places L (8 * length X) = omega (arith, h.reached) in
      (h, (refl, complete s none, none))

-- ---- the window moved, and filled

-- a part written over by another list's start
pub written_over : (w s : List ℕ) (at n : ℕ) → take at w ++ (take n s ++ drop n (drop at w)) ≡ paste w at s n
written_over w s at n = rw (drop-drop n at w) (sym (append_assoc (take at w) (take n s) (drop (at + n) w)))

-- a part of a list's start
take_drop : (w : List ℕ) (by n : ℕ) → by ≤ n → n ≤ length w → take (n - by) (drop by w) ≡ drop by (take n w)
take_drop w by n h l =
    ap (λ (z : List ℕ). take (n - by) (drop by z)) (sym (take-append-drop n w))
    ∙ ap (take (n - by)) (drop-append-le by (take n w) (drop n w) (omega (arith, length-take-le n w l)))
    ∙ take_at (drop by (take n w)) (drop n w) (n - by) (omega (arith, length-drop by (take n w), length-take-le n w l))

module _ (L : ℕ) (X window after : List ℕ) (s : Scan) (h : Stands L X window s) where
  pub slid : s.from / 8 ≤ s.filled → after ≡ paste window 0 (drop (s.from / 8) window) (s.filled - s.from / 8)
      → Kept L X after s (record { before = s.before + s.from / 8; filled = s.filled - s.from / 8; from = s.from % 8 })
  slid l e =
      let inside = h.inside in
      let all = h.all in
      let enough : s.filled - s.from / 8 ≤ length (drop (s.from / 8) window) = simp length-drop (omega arith) in
      let moved : take (s.filled - s.from / 8) after ≡ take (s.filled - s.from / 8) (drop (s.from / 8) window) =
      ap (take (s.filled - s.from / 8)) e
      ∙ ap (λ (k : ℕ). take k (paste window 0 (drop (s.from / 8) window) (s.filled - s.from / 8))) (sym (zero-add (s.filled - s.from / 8)))
      ∙ take-paste window 0 (drop (s.from / 8) window) (s.filled - s.from / 8) zero-le enough
      in
      let same : 8 * (s.before + s.from / 8) + s.from % 8 ≡ 8 * s.before + s.from = omega arith in
      record {
        stands =
            record {
              frame = h.frame;
              inside = rw e (rw (length-paste window 0 (drop (s.from / 8) window) (s.filled - s.from / 8) (omega arith) enough) (omega arith));
              all = omega arith;
              few = h.few;
              tail =
                  moved ∙ take_drop window (s.from / 8) s.filled l inside ∙ ap (drop (s.from / 8)) h.tail ∙ drop-drop (s.from / 8) s.before X;
              reached = omega (arith, h.reached);
            };
        same = same;
      }

  pub fed : (piece : List ℕ) (used : ℕ) → s.filled + used ≤ length window → used ≤ length piece → s.before + s.filled + used ≤ 1152921504606846976
      → after ≡ paste window s.filled piece used
      → Stands L (X ++ take used piece) after (record { before = s.before; filled = s.filled + used; from = s.from })
  fed piece used room enough few e =
      let inside = h.inside in
      let all = h.all in
      let more : length (X ++ take used piece) ≡ length X + used = omega (arith, length-append X (take used piece), length-take-le used piece enough) in
      record {
        frame = h.frame;
        inside = rw e (rw (length-paste window s.filled piece used room enough) room);
        all = omega arith;
        few = omega arith;
        tail =
            ap (take (s.filled + used)) e ∙ take-paste window s.filled piece used inside enough ∙ ap (λ (z : List ℕ). z ++ take used piece) h.tail
            ∙ sym (drop-append-le s.before X (take used piece) (omega arith));
        reached = omega (arith, h.reached);
      }

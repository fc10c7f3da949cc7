-- Any run of calls: whatever pieces are fed and whenever lines are asked for, what was put is the lines of what the definition gives. Assumes nothing.
use Prim.Native.Nat.{ℕ, zero, suc, ◌+◌, ◌*◌, ◌-◌, ◌/◌, ◌≤◌, min}
use mathlib.Core.Path.{◌≡◌, refl, sym, ap, ◌∙◌}
use mathlib.Core.Bool.{Bool, true, false}
use mathlib.Core.List.{List, [], ◌++◌}
use native.Mathlib.Nat.{add-zero}
use native.Mathlib.Omega.{arith}
use borrow.Author.Tests.{leb-true, leb-false}
use lib.Dec.{leb}
use lib.ListN.{length, take, drop, length-take, length-drop, take-append-drop}
use lib.Seq.{take_at}
use Rattle.finder_windows.specs.Definition.{bits, marker_bits, window}
use Rattle.finder_windows.proofs.Bits.{bits_append, length_bits}
use Rattle.capture_meetings.specs.Meetings.{Meeting, all_from, places, meetings, shift, segment}
use Rattle.capture_meetings.proofs.Laws.{shift_zero, shift_append, window_before, window_after, parts, agree}
use Rattle.capture_meetings.proofs.Members.{segment_is}
use Rattle.capture_history.specs.State.{place, Stands, Taken}
use Rattle.capture_history.specs.declared.Scan.{Scan}
use Rattle.capture_history.specs.declared.Fed.{Fed}
use Rattle.capture_history.proofs.Standing.{bits_drop, grown}
use Rattle.program_scan.specs.Lines.{lines}
use Rattle.program_scan.specs.Whole.{met_in, Lined}
use Rattle.program_scan.specs.declared.Put.{Put}
use Rattle.program_scan.proofs.Ink.{lines_append}

-- What a segment and the bytes that decide have in common, in numbers: more bytes than decide make it no longer, and it has as many positions.
no_longer : (K a b x z : ℕ) → x ≡ min a b → K ≤ 8 * a → z ≡ min K (8 * b) → z ≡ min K (8 * x)
no_longer K a b x z one few two = omega arith

as_many : (L c x z : ℕ) → z ≡ min (8 * c + (L + 31)) (8 * x) → min (places L (8 * x)) (8 * c) ≡ places L z
as_many L c x z is = omega arith

-- The bytes that have come, the window, the scan, and the text that was put, after any calls: each step has what the function's contract ensures.
pub data Session (m t L from count : ℕ) : List ℕ → List ℕ → Scan → List ℕ → Type 0 where
  started : (window : List ℕ) (s : Scan) → Stands L [] window s → Session m t L from count [] window s []
  fed : (X window after piece : List ℕ) (s : Scan) (r : Fed) (text : List ℕ)
      → Session m t L from count X window s text → Taken L X piece after s r → Session m t L from count (X ++ take r.used piece) after r.scan text
  put : (X window block left : List ℕ) (s : Scan) (r : Put) (text : List ℕ)
      → Session m t L from count X window s text → Lined m t L from count X window s block left r
      → Session m t L from count X window r.scan (text ++ take r.used left)

module _ (m t L from count : ℕ) where
  -- what is met before a position, and begins in the segment
  abbrev before : List ℕ → ℕ → List Meeting
  before X q = all_from (bits X) (marker_bits m) t L (min q (8 * count)) 0

  abbrev said : List ℕ → ℕ → List ℕ
  said X q = lines (shift (8 * from) (before X q))

  none_at : (X : List ℕ) (p q : ℕ) → all_from (bits X) (marker_bits m) t L 0 p ≡ all_from (bits X) (marker_bits m) t L 0 q
  unfolding all_from
  none_at X p q = refl

  on : (X : List ℕ) (p q : ℕ) → p ≤ q → before X q ≡ before X p ++ all_from (bits X) (marker_bits m) t L (min q (8 * count) - p) p
  on X p q h = by (leb p (8 * count)) refl
    where
      all : min q (8 * count) ≡ min p (8 * count) + (min q (8 * count) - p)
      all = omega arith

      start : (b : Bool) → leb p (8 * count) ≡ b
          → all_from (bits X) (marker_bits m) t L (min q (8 * count) - p) (0 + min p (8 * count))
          ≡ all_from (bits X) (marker_bits m) t L (min q (8 * count) - p) p
      start true e =
          let inside = leb-true p (8 * count) e in
          let here : 0 + min p (8 * count) ≡ p = omega arith in
          ap (all_from (bits X) (marker_bits m) t L (min q (8 * count) - p)) here
      start false e =
          let outside = leb-false p (8 * count) e in
          let none : min q (8 * count) - p ≡ 0 = omega arith in
          rw none (none_at X (0 + min p (8 * count)) p)

      by : (b : Bool) → leb p (8 * count) ≡ b → before X q ≡ before X p ++ all_from (bits X) (marker_bits m) t L (min q (8 * count) - p) p
      by b e =
          ap (λ (n : ℕ). all_from (bits X) (marker_bits m) t L n 0) all
          ∙ parts (marker_bits m) t L (bits X) (min p (8 * count)) (min q (8 * count) - p) 0
          ∙ ap (λ (l : List Meeting). before X p ++ l) (start b e)

  pub so_far : (X window : List ℕ) (s : Scan) (text : List ℕ) → Session m t L from count X window s text → (Stands L X window s) × (text ≡ said X (place s))
  unfolding all_from shift lines
  so_far X window s text (started w z h) =
      let none : min (place s) (8 * count) ≡ 0 = omega (arith, h.reached) in
      (h, sym (ap (λ (n : ℕ). lines (shift (8 * from) (all_from (bits []) (marker_bits m) t L n 0))) none))
  so_far X window s text (fed Y w after piece z r old past taken) =
      let earlier = so_far Y w z old past in
      let few : min (place z) (8 * count) ≤ places L (8 * length Y) = omega (arith, earlier.0.reached) in (
        taken.stands,
        earlier.1
            ∙ sym (ap (λ (n : ℕ). said (Y ++ take r.used piece) n) taken.same
            ∙ ap (λ (l : List Meeting). lines (shift (8 * from) l)) (grown (marker_bits m) t L Y (take r.used piece) (min (place z) (8 * count)) few)),
      )
  so_far X window s text (put Y w block left z r old past lined) =
      let earlier = so_far Y w z old past in
      let new = met_in m t L from count Y (place z) (place r.scan) in
      let there : take r.used left ≡ lines new =
      ap (take r.used) lined.said ∙ take_at (lines new) (drop r.used block) r.used (sym lined.used)
      in (
        lined.stands,
        ap (λ (l : List ℕ). l ++ take r.used left) earlier.1
            ∙ ap (λ (l : List ℕ). said Y (place z) ++ l) there
            ∙ sym (ap (λ (l : List Meeting). lines (shift (8 * from) l)) (on Y (place z) (place r.scan) lined.forward)
            ∙ ap lines (shift_append (8 * from) (before Y (place z)) (all_from (bits Y) (marker_bits m) t L (min (place r.scan) (8 * count) - place z)
            (place z)))
            ∙ lines_append (shift (8 * from) (before Y (place z))) new),
      )

  module _ (X lent : List ℕ) (s : Scan) (text : List ℕ) (past : Session m t L from count X lent s text)
      (done : place s ≡ places L (8 * length X)) where
    ended : text ≡ said X (places L (8 * length X))
    ended = (so_far X lent s text past).1 ∙ ap (said X) done

    -- Where no position is left, of a capture whose every byte is the segment's, the text is the lines of its list, in order and each once, however it was cut.
    pub whole : from ≡ 0 → length X ≤ count → text ≡ lines (meetings (bits X) (marker_bits m) t L)
    unfolding meetings
    whole first wide =
        let all : min (places L (8 * length X)) (8 * count) ≡ places L (length (bits X)) = omega (arith, length_bits X) in
        let start : 8 * from ≡ 0 = omega arith in
        ended ∙ ap (λ (n : ℕ). lines (shift (8 * from) (all_from (bits X) (marker_bits m) t L n 0))) all
        ∙ ap (λ (k : ℕ). lines (shift k (meetings (bits X) (marker_bits m) t L))) start
        ∙ ap lines (shift_zero (meetings (bits X) (marker_bits m) t L))

    -- Of a segment, of which the bytes were read that decide, it is the lines of the segment's list.
    pub of_segment : (Y : List ℕ) → from ≤ length Y → X ≡ take (count + (L + 38) / 8) (drop from Y)
        → text ≡ lines (segment (bits Y) (marker_bits m) t L (8 * from) (8 * count))
    unfolding all_from shift
    of_segment Y inside read = by (min (places L (8 * length X)) (8 * count)) refl
      where
        size : length X ≡ min (count + (L + 38) / 8) (length Y - from)
        size = ap length read ∙ length-take (count + (L + 38) / 8) (drop from Y) ∙ ap (min (count + (L + 38) / 8)) (length-drop from Y)

        long : length (take (8 * count + (L + 31)) (drop (8 * from) (bits Y))) ≡ min (8 * count + (L + 31)) (8 * (length Y - from))
        long =
            let behind : length (drop (8 * from) (bits Y)) ≡ 8 * (length Y - from) = omega (arith, length-drop (8 * from) (bits Y), length_bits Y) in
            length-take (8 * count + (L + 31)) (drop (8 * from) (bits Y)) ∙ ap (min (8 * count + (L + 31))) behind

        positions : min (places L (8 * length X)) (8 * count) ≡ places L (length (take (8 * count + (L + 31)) (drop (8 * from) (bits Y))))
        positions =
            as_many L count (length X) _
            (no_longer (8 * count + (L + 31)) (count + (L + 38) / 8) (length Y - from) (length X) _ size (omega arith) long)

        rest : drop from Y ≡ X ++ drop (count + (L + 38) / 8) (drop from Y)
        rest =
            sym (take-append-drop (count + (L + 38) / 8) (drop from Y)) ∙ ap (λ (l : List ℕ). l ++ drop (count + (L + 38) / 8) (drop from Y)) (sym read)

        same : (q : ℕ) → q + 32 ≤ 8 * length X → window (bits Y) (8 * from + q) ≡ window (bits X) q
        same q h =
            sym (window_after (bits Y) (8 * from) q) ∙ ap (λ (l : List ℕ). window l q) (sym (bits_drop Y from inside) ∙ ap bits rest
            ∙ bits_append X (drop (count + (L + 38) / 8) (drop from Y)))
            ∙ window_before (bits X) (bits (drop (count + (L + 38) / 8) (drop from Y))) q (omega (arith, length_bits X))

        by : (n : ℕ) → n ≡ min (places L (8 * length X)) (8 * count) → text ≡ lines (segment (bits Y) (marker_bits m) t L (8 * from) (8 * count))
        by n e =
            ended ∙ ap (λ (k : ℕ). lines (shift (8 * from) (all_from (bits X) (marker_bits m) t L k 0))) (sym e)
            ∙ ap lines (sym (carried n e)) ∙ ap (λ (k : ℕ). lines (all_from (bits Y) (marker_bits m) t L k (8 * from))) (e ∙ positions)
            ∙ ap lines (sym (segment_is (bits Y) (marker_bits m) t L (8 * from) (8 * count)))
          where
            carried : (n : ℕ) → n ≡ min (places L (8 * length X)) (8 * count)
                → all_from (bits Y) (marker_bits m) t L n (8 * from) ≡ shift (8 * from) (all_from (bits X) (marker_bits m) t L n 0)
            carried zero e = refl
            carried (suc n) e =
                rw (add-zero (8 * from)) at (agree (marker_bits m) t L (bits Y) (bits X) (8 * from) (suc n) 0 (λ q a b. same q (omega arith)))

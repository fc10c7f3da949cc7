-- Lines put up to a position of a window are those of the capture that has come. Assumes nothing.
use Prim.Native.Nat.{ℕ, ◌+◌, ◌*◌, ◌-◌, ◌<◌, ◌≤◌, min}
use mathlib.Core.Path.{◌≡◌, refl, sym, ap, ◌∙◌}
use mathlib.Core.Bool.{Bool, true, false, true≢false}
use mathlib.Core.List.{List, [], ◌++◌}
use native.Mathlib.Omega.{arith}
use borrow.Author.Tests.{ltb-true, ltb-false}
use lib.Dec.{ltb}
use lib.ListN.{length, take, drop}
use Rattle.finder_windows.specs.Definition.{bits, marker_bits}
use Rattle.capture_meetings.specs.Meetings.{all_from, places, shift}
use Rattle.capture_meetings.proofs.Laws.{shift_shift}
use Rattle.capture_history.specs.declared.Scan.{Scan}
use Rattle.capture_history.specs.State.{place, Stands}
use Rattle.capture_history.proofs.Standing.{over}
use Rattle.program_scan.specs.Lines.{lines}
use Rattle.program_scan.specs.Pen.{PutTo}
use Rattle.program_scan.specs.Whole.{met_in, Lined}
use Rattle.program_scan.proofs.Search.{there}

-- where a segment ends in the window
abbrev pub edge : ℕ → Scan → ℕ
edge count s = 8 * (count - s.before)

module _ (m t L from count : ℕ) (X window : List ℕ) (s : Scan) (block : List ℕ) (h : Stands L X window s) where
  abbrev positions : ℕ
  positions = 8 * s.filled - (L + 31)

  abbrev text : ℕ → List ℕ
  text n = lines (shift (8 * (from + s.before)) (all_from (bits (take s.filled window)) (marker_bits m) t L n s.from))

  abbrev lined_to : ℕ → List ℕ
  lined_to q = lines (met_in m t L from count X (place s) q)

  nothing : (q : ℕ) → min q (8 * count) - place s ≡ 0 → lined_to q ≡ []
  unfolding lines shift all_from
  nothing q none = ap (λ (n : ℕ). lines (shift (8 * from) (all_from (bits X) (marker_bits m) t L n (place s)))) none

  -- the window's positions are the capture's
  same_text : (n q : ℕ) → min q (8 * count) - place s ≡ n → lined_to q ≡ text n
  same_text n q count-is =
      let all = h.all in
      let places : 8 * from + 8 * s.before ≡ 8 * (from + s.before) = omega arith in
      ap (λ (k : ℕ). lines (shift (8 * from) (all_from (bits X) (marker_bits m) t L k (place s)))) count-is
      ∙ ap (λ (l : _). lines (shift (8 * from) l)) (over (marker_bits m) t L X (take s.filled window) s.before s.from (omega arith) h.tail n
      s.from)
      ∙ ap lines (shift_shift (8 * from) (8 * s.before) _)
      ∙ ap (λ (k : ℕ). lines (shift k (all_from (bits (take s.filled window)) (marker_bits m) t L n s.from))) places

  -- the scan at another bit of the window
  abbrev at_bit : ℕ → Scan
  at_bit to = record { before = s.before; filled = s.filled; from = to }

  stands_at : (to : ℕ) → 8 * s.before + to ≤ places L (8 * length X) → Stands L X window (at_bit to)
  stands_at to reached = record { frame = h.frame; inside = h.inside; all = h.all; few = h.few; tail = h.tail; reached = reached }

  -- no window of a frame and a marker has come
  pub short : 8 * s.filled < L + 31
      → Lined m t L from count X window s block block (record { used = 0; done = true; scan = at_bit s.from })
  short few =
      let all = h.all in
      let reached = h.reached in
      let none : min (place s) (8 * count) - place s ≡ 0 = omega arith in
      record {
        stands = stands_at s.from h.reached;
        forward = omega arith;
        used = sym (ap length (nothing (place s) none));
        said = sym (ap (λ (l : List ℕ). l ++ block) (nothing (place s) none));
        done = λ e. omega arith;
        full = λ e. absurd (true≢false e);
      }

  module _ (room : L + 31 ≤ 8 * s.filled) where
    last : 8 * s.before + positions ≡ places L (8 * length X)
    last = let all = h.all in omega arith

    -- no position of the segment is left
    pub none : min positions (edge count s) ≤ s.from
        → Lined m t L from count X window s block block (record { used = 0; done = true; scan = at_bit positions })
    none low =
        let reached = h.reached in
        let none : min (8 * s.before + positions) (8 * count) - place s ≡ 0 = omega (arith, last) in
        record {
          stands = stands_at positions (omega (arith, last));
          forward = omega (arith, last);
          used = sym (ap length (nothing (8 * s.before + positions) none));
          said = sym (ap (λ (l : List ℕ). l ++ block) (nothing (8 * s.before + positions) none));
          done = λ e. last;
          full = λ e. absurd (true≢false e);
        }

    module _ (left : List ℕ) (used at : ℕ) (put : PutTo block (take s.filled window) s.from (min positions (edge count s)) m t L
        (8 * (from + s.before)) left used at) where
      -- up to a position
      lined : (b : Bool) (to : ℕ) → min (8 * s.before + to) (8 * count) - place s ≡ at - s.from → at ≤ to → to ≤ positions → (b ≡ true → to ≡ positions)
          → (b ≡ false → at < min positions (edge count s))
          → Lined m t L from count X window s block left (record { used = used; done = b; scan = at_bit to })
      lined b to same low high all less =
          record {
            stands = stands_at to (omega (arith, last));
            forward = omega (arith, put.forward);
            used = sym (ap length (same_text (at - s.from) (8 * s.before + to) same) ∙ put.exact);
            said =
                there put.wrote put.exact put.fits
                ∙ ap (λ (l : List ℕ). l ++ drop used block) (sym (same_text (at - s.from) (8 * s.before + to) same));
            done = λ e. ap (λ (k : ℕ). 8 * s.before + k) (all e) ∙ last;
            full = λ e. put.full (less e);
          }

      pub to_the_end : (b : Bool) → b ≡ true → at ≡ min positions (edge count s)
          → Lined m t L from count X window s block left (record { used = used; done = b; scan = at_bit positions })
      to_the_end b e all =
          lined b positions (omega (arith, put.forward)) (omega (arith, put.inside)) (omega arith) (λ x. refl) (λ x. absurd (true≢false (sym e ∙ x)))

      pub part_of_it : (b : Bool) → b ≡ false → at < min positions (edge count s)
          → Lined m t L from count X window s block left (record { used = used; done = b; scan = at_bit at })
      part_of_it b e less = lined b at (omega (arith, put.forward)) (omega arith) (omega arith) (λ x. absurd (true≢false (sym x ∙ e))) (λ x. less)

pub less : (a b : ℕ) → a ≤ b → (a ≡ b → ⊥) → a < b
less a b le ne = by (ltb a b) refl
  where
    by : (t : Bool) → ltb a b ≡ t → a < b
    by true e = ltb-true a b e
    by false e = absurd (ne (omega (arith, ltb-false a b e)))

-- A text, line by line. Assumes nothing.
use mathlib.Core.Path.{◌≡◌, refl, ap, ◌∙◌}
use mathlib.Core.Bool.{Bool, true, cond, ◌&&◌}
use mathlib.Core.List.{List, [], ◌∷◌, ◌++◌, map, append_assoc, append-nil}
use Prim.Native.Nat.{ℕ, zero, suc, ◌+◌, ◌-◌, ◌*◌, ◌<◌, ◌≤◌}
use native.Mathlib.Numerals.{add-one}
use native.Mathlib.Omega.{arith}
use borrow.Author.Tests.{eq-eqb, ne_eqb, le-leb, lt-leb, leb-true}
use lib.Dec.{eqb, leb}
use lib.ListN.{length, get_or, take, drop, length-append, length-take}
use lib.Seq.{take-append_seam}
use Rattle.program_digits.specs.Codes.{codes}
use Rattle.program_digits.proofs.Laws.{decimal_length}
use Rattle.program_names.proofs.Table.{both_left, both_right}
use Rattle.program_digits.specs.Put.{Wrote}
use Rattle.program_digits.proofs.Puts.{then, no_more, filled}
use Rattle.program_words.specs.Cut.{newline, pieces}
use Rattle.program_words.specs.Stops.{Scanned}
use Rattle.program_words.proofs.Pieces.{first_piece, last_piece, next_piece}
use Rattle.program_answer.specs.Output.{output_alone, said_alone}
use Rattle.program_line.specs.Line.{Line, empty, step, refused, line}
use Rattle.program_assemble.specs.Text.{Assembled, after_them, wrong_line, next_line, of_lines, assembled, reasons, why, complaint, told}
use Rattle.program_assemble.specs.Meaning.{added, room_after, fault, Took, HasRead, TakesLine, Assembles}

abbrev every_short : List (List ℕ) → Bool
every_short [] = true
every_short (w ∷ ws) = leb (length w) 35 && every_short ws

-- a line that adds nothing, whatever the room
of_empty : (m : ℕ) → (added m empty ≡ []) × (room_after m empty ≡ m) × (fault m empty ≡ 0)
of_empty zero = (refl, refl, refl)
of_empty (suc m) = (refl, refl, refl)

of_refused : (m r : ℕ) → (added m (refused r) ≡ []) × (room_after m (refused r) ≡ m) × (fault m (refused r) ≡ r)
of_refused zero r = (refl, refl, refl)
of_refused (suc m) r = (refl, refl, refl)

module _ (l : Line) (n at : ℕ) (out : List ℕ) (most : n ≤ 256) where
  pub takes_nothing : l ≡ empty → TakesLine l n at out out (record { steps = n; at = at; reason = 0 })
  takes_nothing e =
      let of = of_empty (256 - n) in
      record {
        some = λ f. let z : ◌≡◌ {A = ℕ} 0 1 = cc in omega arith;
        most = most;
        room = rw (e, of.1);
        counted = rw (e, of.0) (omega arith);
        reason = rw (e, of.2);
        wrote = rw (e, of.0) (no_more out at);
      }

  pub takes_none : (r : ℕ) → l ≡ refused r → (r ≡ 0 → ⊥) → TakesLine l n at out out (record { steps = n; at = at; reason = r })
  takes_none r e h =
      let of = of_refused (256 - n) r in
      record {
        some = λ f. h (let z : r ≡ 0 = cc in z);
        most = most;
        room = rw (e, of.1);
        counted = rw (e, of.0) (omega arith);
        reason = rw (e, of.2);
        wrote = rw (e, of.0) (no_more out at);
      }

  pub takes_full : (s : List ℕ) → l ≡ step s → n ≡ 256 → TakesLine l n at out out (record { steps = n; at = at; reason = 7 })
  takes_full s e f =
      record {
        some = λ g. let z : ◌≡◌ {A = ℕ} 0 1 = cc in omega arith;
        most = most;
        room = rw (e, full);
        counted = rw (e, full) (omega arith);
        reason = rw (e, full);
        wrote = rw (e, full) (no_more out at);
      }
    where
      full : 256 - n ≡ 0
      full = omega arith

  pub takes_step : (s two : List ℕ) (r : ℕ) → l ≡ step s → n < 256 → length s ≡ 32 → Wrote out at s two r
      → TakesLine l n at out two (record { steps = n + 1; at = r; reason = 0 })
  takes_step s two r e h k w =
      record {
        some = λ g. let z : ◌≡◌ {A = ℕ} 0 1 = cc in omega arith;
        most = omega arith;
        room = rw (e, more);
        counted = rw (e, more) (omega arith);
        reason = rw (e, more);
        wrote = rw (e, more) w;
      }
    where
      more : 256 - n ≡ suc (256 - (n + 1))
      more = omega arith

next_by : (l : Line) (room k : ℕ) (go : ℕ → Assembled) → (l ≡ refused 0 → ⊥)
    → next_line l room k go ≡ cond (eqb (fault room l) 0) (after_them (added room l) (go (room_after room l))) (wrong_line k (fault room l))
next_by empty zero k go h = refl
next_by (step s) zero k go h = refl
next_by (refused r) zero k go h = rw (ne_eqb r 0 (λ e. h (ap refused e)))
next_by empty (suc room) k go h = refl
next_by (step s) (suc room) k go h = refl
next_by (refused r) (suc room) k go h = rw (ne_eqb r 0 (λ e. h (ap refused e)))

nothing_added : (room : ℕ) (l : Line) → (fault room l ≡ 0 → ⊥) → added room l ≡ []
nothing_added zero l h = refl
nothing_added (suc room) empty h = absurd (h refl)
nothing_added (suc room) (step s) h = absurd (h refl)
nothing_added (suc room) (refused r) h = refl

-- A text that is read up to a place, with the steps that were found.
pub record SoFar (text start out : List ℕ) (from at n k : ℕ) : Type 0 where
  pub done : List ℕ
  pub inside : from ≤ length text
  pub most : n ≤ 256
  pub lines : k ≤ from + 1
  pub counted : 32 * n ≡ length done
  pub wrote : Wrote start 0 done out at
  pub is : assembled text ≡ after_them done (of_lines (256 - n) k (pieces newline (drop from text)))

pub nothing_yet : (text out : List ℕ) → SoFar text out out 0 0 0 1
unfolding assembled
nothing_yet text out =
    record { done = []; inside = omega arith; most = omega arith; lines = omega arith; counted = refl; wrote = no_more out 0; is = refl }

module _ {text start out two : List ℕ} {from at n k end : ℕ} (r : Took) (p : SoFar text start out from at n k) (scan : Scanned newline text from end)
    (t : TakesLine (line (take (end - from) (drop from text))) n at out two r) where
  abbrev here : Line
  here = line (take (end - from) (drop from text))

  by_line : (ls : List (List ℕ)) → pieces newline (drop from text) ≡ take (end - from) (drop from text) ∷ ls
      → assembled text
      ≡ after_them p.done
      (cond (eqb r.reason 0) (after_them (added (256 - n) here) (of_lines (256 - r.steps) (suc k) ls)) (wrong_line k r.reason))
  unfolding of_lines
  by_line ls e =
      p.is ∙ ap (after_them p.done) (rw (e, t.room, t.reason) (next_by here (256 - n) k (λ left. of_lines left (suc k) ls) t.some))

  both : Wrote start 0 (p.done ++ added (256 - n) here) two r.at
  both = then p.wrote t.wrote

  all : 32 * r.steps ≡ length (p.done ++ added (256 - n) here)
  all = t.counted ∙ rw (length-append, p.counted)

  pub wrong_here : (r.reason ≡ 0 → ⊥) → Assembles (assembled text) start two (record { steps = n; line = k; reason = r.reason })
  wrong_here h =
      rw (by_line _ (first_piece newline text from end scan), ne_eqb r.reason 0 h, append-nil)
      (record {
        most = p.most;
        steps = p.counted;
        line = refl;
        reason = refl;
        written = rw (nothing_added (256 - n) here (λ e. h (t.reason ∙ e)), append-nil) at both.is;
      })

  pub all_read : r.reason ≡ 0 → end ≡ length text → Assembles (assembled text) start two (record { steps = r.steps; line = 0; reason = 0 })
  unfolding of_lines
  all_read h e =
      rw (by_line _ (last_piece newline text from end scan (omega arith)), eq-eqb r.reason 0 h, append-nil)
      (record { most = t.most; steps = all; line = refl; reason = refl; written = both.is })

  pub read_on : r.reason ≡ 0 → (end ≡ length text → ⊥) → SoFar text start two (end + 1) r.at r.steps (k + 1)
  read_on h e =
      record {
        done = p.done ++ added (256 - n) here;
        inside = omega (arith, scan.high);
        most = t.most;
        lines = omega (arith, scan.low, p.lines);
        counted = all;
        wrote = both;
        is =
            by_line _ (next_piece newline text from end scan (omega (arith, scan.high)))
            ∙ rw (eq-eqb r.reason 0 h, add-one k, append_assoc);
      }

-- how long they are
whys : (r : ℕ) (ls : List (List ℕ)) → (l : every_short ls ≡ true) → length (get_or ls r []) ≤ 35
whys r [] l = omega arith
whys zero (w ∷ ws) l = leb-true (length w) 35 (both_left (leb (length w) 35) _ l)
whys (suc r) (w ∷ ws) l = whys r ws (both_right (leb (length w) 35) _ l)

pub complaint_length : (k r : ℕ) → length (complaint k r) ≤ 128
unfolding complaint why reasons codes
complaint_length k r = simp length-append (omega (arith, decimal_length k, whys r (map codes reasons) refl))

pub list_short : (r : HasRead) (after : List ℕ) → r.steps ≤ 256 → length (take (32 * r.steps) after) ≤ 8192
list_short r after h = omega (arith, length-take (32 * r.steps) after)

-- what is told of a text
module _ (text : List ℕ) where
  pub told_long : 65536 < length text → told text ≡ said_alone (complaint (length (pieces newline (take 65536 text))) 8)
  unfolding told
  told_long h = rw (lt-leb (length text) 65536 h)

  module _ (h : length text ≤ 65536) (r : HasRead) (before after : List ℕ) (a : Assembles (assembled text) before after r) where
    pub told_wrong : (r.reason ≡ 0 → ⊥) → told text ≡ said_alone (complaint r.line r.reason)
    unfolding told
    told_wrong k = rw (le-leb (length text) 65536 h, ← a.reason, ne_eqb r.reason 0 k, ← a.line)

    module _ (room : 8192 ≤ length before) where
      there : after ≡ (assembled text).steps ++ drop (length (assembled text).steps) before
      there = (filled {n = length before} (omega (arith, a.steps, a.most)) refl (record { next = refl; is = a.written })).is

      pub list_fits : 32 * r.steps ≤ length after
      list_fits = rw there (simp length-append (omega (arith, a.steps)))

      pub told_list : r.reason ≡ 0 → told text ≡ output_alone (take (32 * r.steps) after)
      unfolding told
      told_list k =
          rw (le-leb (length text) 65536 h, ← a.reason, eq-eqb r.reason 0 k, there, a.steps, take-append_seam)

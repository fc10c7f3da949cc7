-- A line, as the code reads it. Assumes nothing.
use mathlib.Core.Path.{◌≡◌, refl, sym, ap, ◌∙◌}
use mathlib.Core.Bool.{Bool, true, false, not, cond}
use mathlib.Core.List.{List, [], ◌∷◌}
use Prim.Native.Nat.{ℕ, suc, ◌+◌, ◌-◌, ◌<◌, ◌≤◌}
use native.Mathlib.Nat.{not-suc-le-zero}
use native.Mathlib.Omega.{arith}
use borrow.Author.Tests.{eq-eqb, ne_eqb}
use lib.Dec.{eqb}
use lib.ListN.{length, get_or, take, drop, set, drop_of_length-le, length-drop}
use lib.Seq.{drop-cons}
use Rattle.program_digits.specs.Codes.{codes}
use Rattle.program_words.specs.Cut.{blank, solid, before, skip, word, after, same}
use Rattle.program_words.specs.Stops.{Scanned}
use Rattle.program_names.specs.Names as names
use Rattle.program_fields.specs.Fields.{byte, mark}
use Rattle.program_line.specs.Line.{State, going, wrong, Line, empty, step, refused, apart, end_line, take_field, take_fields, take_mark, take_packed}
use Rattle.program_line.specs.Line.{blank_step, named, stated}
use Rattle.program_line.specs.Reads.{number_of, reason_of, ReadAs}
use Rattle.program_line.specs.declared.Reason.{Reason}
use Rattle.std.specs.Prelude.{Option, Some, None, Result, Ok, Err}

pub read_as : {l m : Line} {r : Result (Option (List ℕ)) Reason} → l ≡ m → ReadAs l r → ReadAs m r
read_as e p = rw (← e) p

same_reason : (e : Reason) → e ≡ reason_of (number_of e)
same_reason Reason.Name = refl
same_reason Reason.Register = refl
same_reason Reason.Lane = refl
same_reason Reason.Byte = refl
same_reason Reason.Mark = refl
same_reason Reason.TooMuch = refl
same_reason Reason.Steps = refl
same_reason Reason.Bytes = refl

pub above_0 : (e : Reason) → number_of e ≡ 0 → ⊥
above_0 Reason.Name h = omega arith
above_0 Reason.Register h = omega arith
above_0 Reason.Lane h = omega arith
above_0 Reason.Byte h = omega arith
above_0 Reason.Mark h = omega arith
above_0 Reason.TooMuch h = omega arith
above_0 Reason.Steps h = omega arith
above_0 Reason.Bytes h = omega arith

pub step_read : (s : List ℕ) → ReadAs (step s) (Ok (Some s))
step_read s = record { says = refl; whole = refl }

pub nothing_read : ReadAs empty (Ok None)
nothing_read = record { says = refl; whole = refl }

pub wrong_read : (e : Reason) → ReadAs (refused (number_of e)) (Err e)
wrong_read e = record { says = refl; whole = ap Err (same_reason e) }

-- a blank stands first where a scan for a word passes something
apart_by : (cs : List ℕ) → apart cs ≡ not (eqb (length (before solid cs)) 0)
unfolding before
apart_by [] = refl
apart_by (c ∷ cs) = by (blank c)
  where
    by : (b : Bool) → b ≡ not (eqb (length (cond (not b) [] (c ∷ before solid cs))) 0)
    by true = rw (ne_eqb (suc (length (before solid cs))) 0 (λ e. omega arith))
    by false = refl

module _ (cs : List ℕ) (from : ℕ) (s : List ℕ) where
  abbrev now : State
  now = going (drop from cs) s

  module _ (at : ℕ) (far : at ≡ from + length (before solid (drop from cs))) (scan : Scanned solid cs from at) where
    pub ends_more : (at ≡ length cs → ⊥) → refused 6 ≡ end_line now
    ends_more h = rw (← scan.left, drop-cons cs at 0 inside)
      where
        inside : at < length cs
        inside = omega (arith, scan.high, h)

    pub ends_step : at ≡ length cs → step s ≡ end_line now
    ends_step h = rw (← scan.left, drop_of_length-le cs at_end)
      where
        at_end : length cs ≤ at
        at_end = omega arith

    pub not_apart : at ≡ from → now ≡ take_packed now
    unfolding take_packed codes
    not_apart h = rw (apart_by (drop from cs), eq-eqb (length (before solid (drop from cs))) 0 (omega arith))

    module _ (k : at ≡ from → ⊥) (end : ℕ) (scan2 : Scanned blank cs at end) (b : Bool) (is : same (take (end - at) (drop at cs)) (codes "packed") ≡ b) where
      is_apart : apart (drop from cs) ≡ true
      is_apart = apart_by (drop from cs) ∙ rw (ne_eqb (length (before solid (drop from cs))) 0 (λ z. k (omega arith)))

      pub not_packed : b ≡ false → now ≡ take_packed now
      unfolding take_packed codes
      not_packed h = rw (is_apart, ← scan.left, ← scan2.passed, is, h)

      module _ (h : b ≡ true) (next : ℕ) (scan3 : Scanned solid cs end next) where
        is_packed : take_mark s (drop next cs) ≡ take_packed now
        unfolding take_packed codes
        is_packed = rw (is_apart, ← scan.left, ← scan2.passed, is, h, ← scan2.left, ← scan3.left)

        pub marked_one : next ≡ length cs → going (drop next cs) (set s 7 1) ≡ take_packed now
        marked_one l = rw none (rw none at is_packed)
          where
            at_end : length cs ≤ next
            at_end = omega arith

            none : drop next cs ≡ []
            none = drop_of_length-le cs at_end

        pub marked : (next ≡ length cs → ⊥) → take_field mark 7 (going (drop next cs) s) ≡ take_packed now
        marked l = rw some (rw some at is_packed)
          where
            some : drop next cs ≡ get_or cs next 0 ∷ drop (suc next) cs
            some = drop-cons cs next 0 (omega (arith, scan3.high, l))

pub packed_wrong : (x : ℕ) → take_packed (wrong x) ≡ wrong x
unfolding take_packed
packed_wrong x = refl

by_words : (t : List ℕ) → 0 < length t
    → stated t ≡ cond (same (word t) (codes "step")) (end_line (take_fields byte 32 0 (going (after t) blank_step))) (named (names.number (word t)) (after t))
unfolding stated
by_words [] h = absurd (not-suc-le-zero h)
by_words (c ∷ cs) h = refl

module _ (cs : List ℕ) (at : ℕ) (scan : Scanned solid cs 0 at) where
  pub nothing_there : at ≡ length cs → empty ≡ stated (skip cs)
  unfolding stated
  nothing_there h = rw (← scan.left, drop_of_length-le cs at_end)
    where
      at_end : length cs ≤ at
      at_end = omega arith

  module _ (h : at ≡ length cs → ⊥) (end : ℕ) (scan2 : Scanned blank cs at end) (b : Bool) (is : same (take (end - at) (drop at cs)) (codes "step") ≡ b) where
    words : stated (skip cs)
        ≡ cond b (end_line (take_fields byte 32 0 (going (drop end cs) blank_step))) (named (names.number (take (end - at) (drop at cs))) (drop end cs))
    words =
        ap stated (sym scan.left)
        ∙ by_words (drop at cs) (omega (arith, length-drop at cs, scan.high, h))
        ∙ rw (← scan2.passed, ← scan2.left, is)

    pub is_whole : b ≡ true → end_line (take_fields byte 32 0 (going (drop end cs) blank_step)) ≡ stated (skip cs)
    is_whole e = sym (words ∙ rw e)

    pub is_named : b ≡ false → named (names.number (take (end - at) (drop at cs))) (drop end cs) ≡ stated (skip cs)
    is_named e = sym (words ∙ rw e)

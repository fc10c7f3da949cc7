-- Plain lines: a step whose number has a name, whose registers are legal and whose ignored bytes are 0 is written as its plain line. Assumes nothing.
use mathlib.Core.Path.{◌≡◌, refl, sym, ap, ◌∙◌}
use mathlib.Core.Bool.{Bool, true, false, cond, ◌&&◌, false≢true}
use mathlib.Core.List.{List, [], ◌∷◌, ◌++◌, append_assoc, append-nil}
use Prim.Native.Nat.{ℕ, zero, suc, ◌+◌, ◌<◌, ◌≤◌}
use native.Mathlib.Nat.{add-zero, add-suc, suc-add, not-suc-le-zero}
use native.Mathlib.Omega.{arith}
use borrow.Author.Tests.{lt-ltb, le-leb, eq-eqb, eqb-true, eqb-false}
use lib.Dec.{eqb}
use lib.ListN.{length, get_or, set}
use Rattle.program_arguments.specs.Arguments.{Numeral, number, none}
use Rattle.program_arguments.specs.Arguments as arguments
use Rattle.calculator_rules.specs.Definition.{operation}
use Rattle.program_digits.specs.Codes.{codes}
use Rattle.program_digits.specs.Digits.{digits, places, decimal}
use Rattle.program_words.specs.Cut.{blank, before, onward, skip, word, after, same}
use Rattle.program_words.proofs.Free.{free, passes}
use Rattle.program_words.proofs.Pieces.{same_refl}
use Rattle.program_names.specs.Names.{name}
use Rattle.program_names.specs.Names as names
use Rattle.program_names.proofs.Table.{name_free, number_of_name, name_not_step, name_below}
use Rattle.program_fields.specs.Fields.{Field, register, lane, mark as a-mark, byte, find}
use Rattle.program_forms.specs.Forms.{Form, form}
use Rattle.program_line.specs.Line.{step, going, apart, take_field, take_fields, take_form, take_mark, take_packed, end_line, of_operation}
use Rattle.program_line.specs.Line.{blank_step, named, stated, line}
use Rattle.program_step.specs.Shown.{field, fields, mark, of_form, plain, shown}
use Rattle.program_text.specs.Used.{copied, marked, fields_of, used}
use Rattle.program_text.proofs.Back.{below, at, parts, free_less, free_decimal, free_plain, statement_all, byte_taken, ended, tick, Bytes}

-- a number below 256 is read back
abbrev reads : Numeral → ℕ → Bool
reads (number n) b = eqb n b
reads none b = false

all_read : below (λ b. reads (arguments.decimal (decimal b)) b) 256 ≡ true
unfolding decimal digits places
all_read = refl

reads_so : (m : Numeral) (b : ℕ) → reads m b ≡ true → m ≡ number b
reads_so (number n) b e = ap number (eqb-true n b e)
reads_so none b e = absurd (false≢true e)

decimal_back : (b : ℕ) → b < 256 → arguments.decimal (decimal b) ≡ number b
decimal_back b h = reads_so (arguments.decimal (decimal b)) b (at (λ b. reads (arguments.decimal (decimal b)) b) 256 all_read b h)

decimal_solid : (b : ℕ) → free blank (decimal b) ≡ true
decimal_solid b = free_decimal blank (λ c e. (parts c e).1) b

-- where a word ends
abbrev ends : List ℕ → Bool
ends [] = true
ends (c ∷ cs) = blank c

word_of : (w cs : List ℕ) → free blank w ≡ true → ends cs ≡ true → word (w ++ cs) ≡ w
unfolding before
word_of [] [] e h = refl
word_of [] (c ∷ cs) e h = rw h
word_of (x ∷ xs) cs e h = let p = passes (blank x) (free blank xs) e in rw p.0 (ap (λ (r : List ℕ). x ∷ r) (word_of xs cs p.1 h))

after_of : (w cs : List ℕ) → free blank w ≡ true → ends cs ≡ true → after (w ++ cs) ≡ cs
unfolding onward
after_of [] [] e h = refl
after_of [] (c ∷ cs) e h = rw h
after_of (x ∷ xs) cs e h = let p = passes (blank x) (free blank xs) e in rw p.0 (after_of xs cs p.1 h)

skip_solid : (w cs : List ℕ) → free blank w ≡ true → 0 < length w → skip (w ++ cs) ≡ w ++ cs
unfolding onward
skip_solid [] cs e h = absurd (not-suc-le-zero h)
skip_solid (x ∷ xs) cs e h = let p = passes (blank x) (free blank xs) e in rw p.0

some_digits : (b : ℕ) → b < 256 → 0 < length (decimal b)
some_digits b h = by (decimal b) (decimal_back b h)
  where
    by : (w : List ℕ) → arguments.decimal w ≡ number b → 0 < length w
    by [] e = absurd (false≢true (ap (λ (m : Numeral). reads m b) e ∙ eq-eqb b b refl))
    by (x ∷ xs) e = omega arith

-- a field that is written is taken
register_taken : (p b : ℕ) (cs s : List ℕ) → b ≤ 15 → ends cs ≡ true → take_field register p (going (field register p b ++ cs) s) ≡ going cs (set s p b)
unfolding take_field field codes find onward before
register_taken p b cs s h e =
    rw (
      after_of (decimal b) cs (decimal_solid b) e,
      word_of (decimal b) cs (decimal_solid b) e,
      decimal_back b (omega arith),
      le-leb 0 b
          (omega arith),
      le-leb b 15 h,
    )

lane_taken : (p b : ℕ) (cs s : List ℕ) → b < 256 → ends cs ≡ true → take_field lane p (going (field lane p b ++ cs) s) ≡ going cs (set s p b)
unfolding take_field field codes find onward
lane_taken p b cs s h e =
    rw (
      skip_solid (decimal b) cs (decimal_solid b) (some_digits b h),
      after_of (decimal b) cs (decimal_solid b) e,
      word_of (decimal b) cs
          (decimal_solid b) e,
      decimal_back b h,
      le-leb 0 b (omega arith),
      le-leb b 255 (omega arith),
    )

-- so many of them
module _ (f : Field) (Ok : ℕ → Type 0) (E : List ℕ → Type 0)
    (one : (p b : ℕ) (cs s : List ℕ) → Ok b → E cs → take_field f p (going (field f p b ++ cs) s) ≡ going cs (set s p b))
    (next : (p b : ℕ) (cs : List ℕ) → E cs → E (field f p b ++ cs)) where
  ends_fields : (n p : ℕ) (s cs : List ℕ) → E cs → E (fields f n p s ++ cs)
  unfolding fields
  ends_fields zero p s cs e = e
  ends_fields (suc n) p s cs e =
      rw (append_assoc (field f p (get_or s p 0)) (fields f n (suc p) s) cs) (next p (get_or s p 0) (fields f n (suc p) s ++ cs) (ends_fields n (suc p) s cs e))

  fields_taken : (n p : ℕ) (s cs t : List ℕ) → ((i : ℕ) → i < n → Ok (get_or s (p + i) 0)) → E cs
      → take_fields f n p (going (fields f n p s ++ cs) t) ≡ going cs (copied n p s t)
  unfolding take_fields fields copied
  fields_taken zero p s cs t ok e = refl
  fields_taken (suc n) p s cs t ok e =
      rw (
        append_assoc (field f p (get_or s p 0)) (fields f n (suc p) s) cs,
        one p (get_or s p 0) (fields f n (suc p) s ++ cs) t
            (rw (add-zero p) at (ok 0 (omega arith))) (ends_fields n (suc p) s cs e),
      )
      (fields_taken n (suc p) s cs (set t p (get_or s p 0)) (λ i h. rw (suc-add p i, ← add-suc p i) (ok (suc i) (omega arith))) e)

ends_mark : (m : ℕ) → ends (mark m) ≡ true
unfolding mark codes
ends_mark m = by (eqb m 0)
  where
    by : (b : Bool) → ends (cond b [] (codes " packed" ++ cond (eqb m 1) [] (field a-mark 7 m))) ≡ true
    by true = refl
    by false = refl

ends_bytes : (n : ℕ) (s cs : List ℕ) → ends cs ≡ true → ends (fields byte n 16 s ++ cs) ≡ true
unfolding fields field codes
ends_bytes zero s cs e = e
ends_bytes (suc n) s cs e = refl

starts_register : (p b : ℕ) (cs : List ℕ) → ends (field register p b ++ cs) ≡ true
unfolding field codes
starts_register p b cs = refl

starts_lane : (p b : ℕ) (cs : List ℕ) → ends (field lane p b ++ cs) ≡ true
unfolding field codes
starts_lane p b cs = refl

ends_field : (m : ℕ) → ends (field a-mark 7 m) ≡ true
unfolding field codes
ends_field m = refl

skip_field : (m : ℕ) → m < 256 → skip (field a-mark 7 m) ≡ decimal m
unfolding field codes onward
skip_field m h =
    ap (λ (t : List ℕ). skip t) (sym (append-nil (decimal m))) ∙ skip_solid (decimal m) [] (decimal_solid m) (some_digits m h) ∙ append-nil (decimal m)

no_mark : (t : List ℕ) → take_packed (going [] t) ≡ going [] t
unfolding take_packed codes
no_mark t = refl

one_mark : (t : List ℕ) → take_mark t (skip []) ≡ going [] (set t 7 1)
unfolding onward
one_mark t = refl

by_word : (t : List ℕ) → 0 < length t
    → stated t ≡ cond (same (word t) (codes "step")) (end_line (take_fields byte 32 0 (going (after t) blank_step))) (named (names.number (word t)) (after t))
unfolding stated
by_word [] h = absurd (not-suc-le-zero h)
by_word (c ∷ cs) h = refl

plain_ticks : (s : List ℕ) → free tick (plain s) ≡ true
unfolding codes
plain_ticks s = free_plain tick (λ c e. (parts c e).2) refl refl refl refl s

solid_first : (s : List ℕ) → free blank (name (operation s)) ≡ true → 0 < length (name (operation s)) → skip (plain s) ≡ plain s
unfolding plain
solid_first s e h = skip_solid (name (operation s)) _ e h

-- the mark
mark_taken : (m : ℕ) (t : List ℕ) → m < 256 → (m ≡ 0 → ⊥) → take_field a-mark 7 (going (decimal m) t) ≡ going [] (set t 7 m)
unfolding take_field find
mark_taken m t h k =
    rw (
      ← append-nil (decimal m),
      skip_solid (decimal m) [] (decimal_solid m) (some_digits m h),
      after_of (decimal m) [] (decimal_solid m) refl,
      word_of (decimal m) [] (decimal_solid m) refl,
      decimal_back m h,
      le-leb 1 m (omega (arith, k)),
      le-leb m 255 (omega arith),
    )

mark_of : (t w : List ℕ) → 0 < length w → take_mark t w ≡ take_field a-mark 7 (going w t)
mark_of t [] h = absurd (not-suc-le-zero h)
mark_of t (c ∷ cs) h = refl

skipped : (w : List ℕ) → skip (codes " packed" ++ w) ≡ codes "packed" ++ w
unfolding codes onward
skipped w = refl

one_word : free blank (codes "packed") ≡ true
unfolding codes
one_word = refl

packed_by : (cs t : List ℕ)
    → take_packed (going cs t)
    ≡ cond (apart cs && same (word (skip cs)) (codes "packed")) (take_mark t (skip (after (skip cs)))) (going cs t)
unfolding take_packed
packed_by cs t = refl

set_apart : (w : List ℕ) → apart (codes " packed" ++ w) ≡ true
unfolding codes
set_apart w = refl

packed_word : (t w : List ℕ) → ends w ≡ true → take_packed (going (codes " packed" ++ w) t) ≡ take_mark t (skip w)
packed_word t w e =
    packed_by (codes " packed" ++ w) t
    ∙ rw (set_apart w, skipped w, word_of (codes "packed") w one_word e, after_of (codes "packed") w one_word e, same_refl (codes "packed"))

packed_taken : (m : ℕ) (t : List ℕ) → m < 256 → take_packed (going (mark m) t) ≡ going [] (marked m t)
unfolding mark
packed_taken m t h = by (eqb m 0) refl (eqb m 1) refl
  where
    none_there : take_packed (going [] t) ≡ going [] t
    none_there = no_mark t

    by : (p : Bool) → eqb m 0 ≡ p → (q : Bool) → eqb m 1 ≡ q
        → take_packed (going (cond p [] (codes " packed" ++ cond q [] (field a-mark 7 m))) t) ≡ going [] (cond p t (set t 7 m))
    by true e q f = none_there
    by false e true f = packed_word t [] refl ∙ one_mark t ∙ ap (λ (n : ℕ). going [] (set t 7 n)) (sym (eqb-true m 1 f))
    by false e false f =
        packed_word t (field a-mark 7 m) (ends_field m)
        ∙ ap (take_mark t) (skip_field m h)
        ∙ mark_of t (decimal m) (some_digits m h)
        ∙ mark_taken m t h (eqb-false m 0 e)

-- What a step's line needs to be plain: "a step whose number has a name, whose registers are legal and whose ignored bytes are 0".
pub record Ordinary (s : List ℕ) : Type 0 where
  pub has_name : 0 < length (name (operation s))
  pub legal : (i : ℕ) → i < (form (operation s)).registers → get_or s ((form (operation s)).first + i) 0 ≤ 15
  pub ignored : used s ≡ s
  pub bytes : Bytes s

module _ (s : List ℕ) (o : Ordinary s) where
  abbrev n : ℕ
  n = operation s

  abbrev f : Form
  f = form n

  abbrev m : ℕ
  m = get_or s 7 0

  form_taken : (t : List ℕ) → take_form f (going (of_form f s ++ mark m) t) ≡ going (mark m) (fields_of f s t)
  unfolding take_form of_form
  form_taken t =
      rw (
        append_assoc (fields register f.registers f.first s) (fields lane f.lanes 6 s ++ fields byte f.bytes 16 s) (mark m),
        append_assoc (fields lane f.lanes 6 s) (fields byte f.bytes 16 s) (mark m),
        registers_taken,
        lanes_taken,
      )
      bytes_taken
    where
      after_lanes : List ℕ
      after_lanes = fields byte f.bytes 16 s ++ mark m

      registers_taken : take_fields register f.registers f.first
          (going (fields register f.registers f.first s ++ (fields lane f.lanes 6 s ++ (fields byte f.bytes 16 s ++ mark m))) t)
          ≡ going (fields lane f.lanes 6 s ++ (fields byte f.bytes 16 s ++ mark m)) (copied f.registers f.first s t)
      registers_taken =
          fields_taken register (λ b. b ≤ 15) (λ cs. ends cs ≡ true) register_taken (λ p b cs e. starts_register p b cs) f.registers f.first s _ t
          o.legal
          (ends_fields lane (λ b. b < 256) (λ cs. ends cs ≡ true) lane_taken (λ p b cs e. starts_lane p b cs) f.lanes 6 s _
          (ends_bytes f.bytes s (mark m) (ends_mark m)))

      lanes_taken : take_fields lane f.lanes 6
          (going (fields lane f.lanes 6 s ++ (fields byte f.bytes 16 s ++ mark m)) (copied f.registers f.first s t))
          ≡ going (fields byte f.bytes 16 s ++ mark m) (copied f.lanes 6 s (copied f.registers f.first s t))
      lanes_taken =
          fields_taken lane (λ b. b < 256) (λ cs. ends cs ≡ true) lane_taken (λ p b cs e. starts_lane p b cs) f.lanes 6 s _ _ (λ i h. o.bytes (6 + i))
          (ends_bytes f.bytes s (mark m) (ends_mark m))

      bytes_taken : take_fields byte f.bytes 16
          (going (fields byte f.bytes 16 s ++ mark m) (copied f.lanes 6 s (copied f.registers f.first s t)))
          ≡ going (mark m) (fields_of f s t)
      bytes_taken =
          fields_taken byte (λ b. b < 256) (λ cs. Unit) (λ p b cs t h e. byte_taken p b cs t h) (λ p b cs e. tt) f.bytes 16 s (mark m) _
          (λ i h. o.bytes (16 + i)) tt

  named_plain : named n (of_form f s ++ mark m) ≡ step s
  unfolding named used
  named_plain =
      rw (lt-ltb n 276 (name_below n o.has_name), form_taken (of_operation n), packed_taken m (fields_of f s (of_operation n)) (o.bytes 7))
      (ended (used s) ∙ ap step o.ignored)

  name_solid : free blank (name n) ≡ true
  name_solid = free_less blank (λ c e. (parts c e).1) (name n) (name_free n)

  ends_form : ends (of_form f s ++ mark m) ≡ true
  unfolding of_form
  ends_form =
      rw (
        append_assoc (fields register f.registers f.first s) (fields lane f.lanes 6 s ++ fields byte f.bytes 16 s) (mark m),
        append_assoc (fields lane f.lanes 6 s) (fields byte f.bytes 16 s) (mark m),
      )
      (ends_fields register (λ b. b ≤ 15) (λ cs. ends cs ≡ true) register_taken (λ p b cs e. starts_register p b cs) f.registers f.first s _
      (ends_fields lane (λ b. b < 256) (λ cs. ends cs ≡ true) lane_taken (λ p b cs e. starts_lane p b cs) f.lanes 6 s _
      (ends_bytes f.bytes s (mark m) (ends_mark m))))

  stated_plain : stated (plain s) ≡ step s
  unfolding plain
  stated_plain =
      by_word (name n ++ (of_form f s ++ mark m)) (some_name (name n) o.has_name)
      ∙ rw (
        word_of (name n) _ name_solid ends_form,
        after_of (name n) _ name_solid ends_form,
        name_not_step n o.has_name,
        number_of_name n
            o.has_name,
      ) named_plain
    where
      some_name : (w : List ℕ) → 0 < length w → 0 < length (w ++ (of_form f s ++ mark m))
      some_name [] h = absurd (not-suc-le-zero h)
      some_name (x ∷ xs) h = omega arith

  line_plain : line (plain s) ≡ step s
  unfolding line
  line_plain =
      ap (λ (t : List ℕ). stated (skip t)) (statement_all (plain s) (plain_ticks s))
      ∙ ap stated (plain_solid)
      ∙ stated_plain
    where
      plain_solid : skip (plain s) ≡ plain s
      plain_solid = solid_first s name_solid o.has_name

  -- Plain lines.
  pub plain_lines : shown s ≡ plain s
  unfolding shown
  plain_lines = rw (line_plain, same_refl s)

-- A line is read by its words: how many blanks stand between them, and which, says nothing. Assumes nothing.
use mathlib.Core.Path.{◌≡◌, refl, sym, ap, ◌∙◌}
use mathlib.Core.Logic.{◌⊎◌, inl, inr}
use mathlib.Core.Bool.{Bool, true, false, cond, ◌&&◌, ◌||◌}
use mathlib.Core.List.{List, [], ◌∷◌}
use Prim.Native.Nat.{ℕ, zero, suc, ◌+◌, ◌*◌}
use borrow.Author.Tests.{eqb-true}
use lib.Dec.{eqb, ltb, leb}
use Rattle.program_arguments.specs.Arguments.{Numeral, number, none, digit, decimal}
use Rattle.program_digits.specs.Codes.{codes}
use Rattle.program_words.specs.Cut.{blank, before, onward, skip, word, after, statement, same}
use Rattle.program_names.specs.Names as names
use Rattle.program_fields.specs.Fields.{Field, register, lane, mark, byte, Found, found, nothing, between, as_register, as_byte, find}
use Rattle.program_forms.specs.Forms.{Form, form}
use Rattle.program_line.specs.Line.{Line, refused, State, going, wrong, field_expected, store, take_field, take_fields, take_form, apart}
use Rattle.program_line.specs.Line.{take_mark, take_packed, nothing_more, end_line, of_operation, blank_step, named, stated, line}
use Rattle.program_text.specs.Words.{spaced, tidy}

-- by whether a character is a blank
module _ (c : ℕ) (cs : List ℕ) (e : blank c ≡ true) where
  tidy_blank : tidy (c ∷ cs) ≡ spaced (tidy cs)
  unfolding tidy
  tidy_blank = rw e

  word_blank : word (c ∷ cs) ≡ []
  unfolding before
  word_blank = rw e

  after_blank : after (c ∷ cs) ≡ c ∷ cs
  unfolding onward
  after_blank = rw e

  skip_blank : skip (c ∷ cs) ≡ skip cs
  unfolding onward
  skip_blank = rw e

module _ (c : ℕ) (cs : List ℕ) (e : blank c ≡ false) where
  tidy_solid : tidy (c ∷ cs) ≡ c ∷ tidy cs
  unfolding tidy
  tidy_solid = rw e

  word_solid : word (c ∷ cs) ≡ c ∷ word cs
  unfolding before
  word_solid = rw e

  after_solid : after (c ∷ cs) ≡ after cs
  unfolding onward
  after_solid = rw e

  skip_solid : skip (c ∷ cs) ≡ c ∷ cs
  unfolding onward
  skip_solid = rw e

-- a space, or nothing, comes first
word_spaced : (ds : List ℕ) → word (spaced ds) ≡ []
unfolding before
word_spaced [] = refl
word_spaced (d ∷ ds) = by (eqb d 32) (eqb-true d 32)
  where
    by : (b : Bool) → (b ≡ true → d ≡ 32) → word (cond b (d ∷ ds) (32 ∷ d ∷ ds)) ≡ []
    by true h = rw (h refl)
    by false h = refl

after_spaced : (ds : List ℕ) → after (spaced ds) ≡ spaced ds
unfolding onward
after_spaced [] = refl
after_spaced (d ∷ ds) = by (eqb d 32) (eqb-true d 32)
  where
    by : (b : Bool) → (b ≡ true → d ≡ 32) → after (cond b (d ∷ ds) (32 ∷ d ∷ ds)) ≡ cond b (d ∷ ds) (32 ∷ d ∷ ds)
    by true h = rw (h refl)
    by false h = refl

skip_spaced : (ds : List ℕ) → skip (spaced ds) ≡ skip ds
unfolding onward
skip_spaced [] = refl
skip_spaced (d ∷ ds) = by (eqb d 32)
  where
    by : (b : Bool) → skip (cond b (d ∷ ds) (32 ∷ d ∷ ds)) ≡ skip (d ∷ ds)
    by true = refl
    by false = refl

-- the word that comes first, and what follows it, and what follows blanks
word_tidy : (cs : List ℕ) → word (tidy cs) ≡ word cs
unfolding before tidy
word_tidy [] = refl
word_tidy (c ∷ cs) = by (blank c) refl (word_tidy cs)
  where
    by : (b : Bool) → blank c ≡ b → word (tidy cs) ≡ word cs → word (tidy (c ∷ cs)) ≡ word (c ∷ cs)
    by true e h = ap word (tidy_blank c cs e) ∙ word_spaced (tidy cs) ∙ sym (word_blank c cs e)
    by false e h = ap word (tidy_solid c cs e) ∙ word_solid c (tidy cs) e ∙ ap (λ (r : List ℕ). c ∷ r) h ∙ sym (word_solid c cs e)

after_tidy : (cs : List ℕ) → after (tidy cs) ≡ tidy (after cs)
unfolding onward tidy
after_tidy [] = refl
after_tidy (c ∷ cs) = by (blank c) refl (after_tidy cs)
  where
    by : (b : Bool) → blank c ≡ b → after (tidy cs) ≡ tidy (after cs) → after (tidy (c ∷ cs)) ≡ tidy (after (c ∷ cs))
    by true e h = ap after (tidy_blank c cs e) ∙ after_spaced (tidy cs) ∙ sym (ap tidy (after_blank c cs e) ∙ tidy_blank c cs e)
    by false e h = ap after (tidy_solid c cs e) ∙ after_solid c (tidy cs) e ∙ h ∙ sym (ap tidy (after_solid c cs e))

skip_tidy : (cs : List ℕ) → skip (tidy cs) ≡ tidy (skip cs)
unfolding onward tidy
skip_tidy [] = refl
skip_tidy (c ∷ cs) = by (blank c) refl (skip_tidy cs)
  where
    by : (b : Bool) → blank c ≡ b → skip (tidy cs) ≡ tidy (skip cs) → skip (tidy (c ∷ cs)) ≡ tidy (skip (c ∷ cs))
    by true e h = ap skip (tidy_blank c cs e) ∙ skip_spaced (tidy cs) ∙ h ∙ sym (ap tidy (skip_blank c cs e))
    by false e h = ap skip (tidy_solid c cs e) ∙ skip_solid c (tidy cs) e ∙ sym (ap tidy (skip_solid c cs e) ∙ tidy_solid c cs e)

-- what follows blanks is nothing, or begins with no blank
by_skip : (P : List ℕ → Type 0) → P [] → ((c : ℕ) (cs : List ℕ) → blank c ≡ false → P (c ∷ cs)) → (cs : List ℕ) → P (skip cs)
unfolding onward
by_skip P n s [] = n
by_skip P n s (c ∷ cs) = by (blank c) refl (by_skip P n s cs)
  where
    by : (b : Bool) → blank c ≡ b → P (skip cs) → P (skip (c ∷ cs))
    by true e h = rw (skip_blank c cs e) h
    by false e h = rw (skip_solid c cs e) (s c cs e)

-- a field is found in a tidy text, and what follows it is tidy
then_tidy : Found → Found
then_tidy (found n rest) = found n (tidy rest)
then_tidy nothing = nothing

between_tidy : (low high : ℕ) (rest : List ℕ) (m : Numeral) → between low high (tidy rest) m ≡ then_tidy (between low high rest m)
unfolding then_tidy
between_tidy low high rest (number n) = by (leb low n && leb n high)
  where
    by : (b : Bool) → cond b (found n (tidy rest)) nothing ≡ then_tidy (cond b (found n rest) nothing)
    by true = refl
    by false = refl
between_tidy low high rest none = refl

register_tidy : (rest w : List ℕ) → as_register (tidy rest) w ≡ then_tidy (as_register rest w)
unfolding then_tidy
register_tidy rest [] = refl
register_tidy rest (c ∷ cs) = by (eqb c 114) (between_tidy 0 15 rest (decimal cs))
  where
    by : (b : Bool) → between 0 15 (tidy rest) (decimal cs) ≡ then_tidy (between 0 15 rest (decimal cs))
        → cond b (between 0 15 (tidy rest) (decimal cs)) nothing ≡ then_tidy (cond b (between 0 15 rest (decimal cs)) nothing)
    by true e = e
    by false e = refl

-- a blank is no hex digit
or_else : (p q r : Bool) → (p || (q || r)) ≡ true → (p ≡ true) ⊎ ((q ≡ true) ⊎ (r ≡ true))
or_else true q r e = inl refl
or_else false true r e = inr (inl refl)
or_else false false r e = inr (inr e)

no_digit : (a : ℕ) → blank a ≡ true → ltb (digit a) 16 ≡ false
no_digit a e = by (or_else (eqb a 32) (eqb a 9) (eqb a 13) e)
  where
    by : (eqb a 32 ≡ true) ⊎ ((eqb a 9 ≡ true) ⊎ (eqb a 13 ≡ true)) → ltb (digit a) 16 ≡ false
    by (inl h) = rw (eqb-true a 32 h)
    by (inr (inl h)) = rw (eqb-true a 9 h)
    by (inr (inr h)) = rw (eqb-true a 13 h)

byte_spaced : (ds : List ℕ) → as_byte (spaced ds) ≡ nothing
byte_spaced [] = refl
byte_spaced (d ∷ ds) = by (eqb d 32) (eqb-true d 32) ds
  where
    by : (b : Bool) → (b ≡ true → d ≡ 32) → (ds : List ℕ) → as_byte (cond b (d ∷ ds) (32 ∷ d ∷ ds)) ≡ nothing
    by true h [] = refl
    by true h (x ∷ xs) = rw (h refl)
    by false h ds = refl

half_spaced : (a : ℕ) (ds : List ℕ) → as_byte (a ∷ spaced ds) ≡ nothing
half_spaced a [] = refl
half_spaced a (d ∷ ds) = by (ltb (digit a) 16) (eqb d 32) (eqb-true d 32)
  where
    two : (x e : ℕ) (es : List ℕ) → as_byte (x ∷ e ∷ es) ≡ cond (ltb (digit x) 16) (cond (ltb (digit e) 16) (found (16 * digit x + digit e) es) nothing) nothing
    two x e es = refl

    by : (p b : Bool) → (b ≡ true → d ≡ 32) → as_byte (a ∷ cond b (d ∷ ds) (32 ∷ d ∷ ds)) ≡ nothing
    by p true h = rw (h refl) (either (ltb (digit a) 16))
      where
        either : (q : Bool) → cond q nothing nothing ≡ nothing
        either true = refl
        either false = refl
    by p false h = either (ltb (digit a) 16)
      where
        either : (q : Bool) → cond q nothing nothing ≡ nothing
        either true = refl
        either false = refl

byte_tidy : (t : List ℕ) → as_byte (tidy t) ≡ then_tidy (as_byte t)
unfolding tidy then_tidy
byte_tidy [] = refl
byte_tidy (a ∷ []) = by (blank a)
  where
    by : (b : Bool) → as_byte (cond b [] (a ∷ [])) ≡ nothing
    by true = refl
    by false = refl
byte_tidy (a ∷ b ∷ r) = by (blank a) refl (blank b) refl
  where
    either : (q : Bool) → then_tidy (cond q nothing nothing) ≡ nothing
    either true = refl
    either false = refl

    both : (p q : Bool) (n : ℕ) → cond p (cond q (found n (tidy r)) nothing) nothing ≡ then_tidy (cond p (cond q (found n r) nothing) nothing)
    both true true n = refl
    both true false n = refl
    both false q n = refl

    by : (p : Bool) → blank a ≡ p → (q : Bool) → blank b ≡ q → as_byte (tidy (a ∷ b ∷ r)) ≡ then_tidy (as_byte (a ∷ b ∷ r))
    by true e q f = ap as_byte (tidy_blank a (b ∷ r) e) ∙ byte_spaced (tidy (b ∷ r)) ∙ rw (no_digit a e)
    by false e true f =
        ap as_byte (tidy_solid a (b ∷ r) e ∙ ap (λ (x : List ℕ). a ∷ x) (tidy_blank b r f)) ∙ half_spaced a (tidy r)
        ∙ rw (no_digit b f) (sym (either (ltb (digit a) 16)))
    by false e false f =
        ap as_byte (tidy_solid a (b ∷ r) e ∙ ap (λ (x : List ℕ). a ∷ x) (tidy_solid b r f))
        ∙ both (ltb (digit a) 16) (ltb (digit b) 16) (16 * digit a + digit b)

find_tidy : (f : Field) (t : List ℕ) → find f (tidy t) ≡ then_tidy (find f t)
unfolding find
find_tidy register t = rw (after_tidy t, word_tidy t) (register_tidy (after t) (word t))
find_tidy lane t = rw (after_tidy t, word_tidy t) (between_tidy 0 255 (after t) (decimal (word t)))
find_tidy mark t = rw (after_tidy t, word_tidy t) (between_tidy 1 255 (after t) (decimal (word t)))
find_tidy byte t = byte_tidy t

-- a line that is being read, tidied
tidied : State → State
tidied (going cs s) = going (tidy cs) s
tidied (wrong n) = wrong n

store_tidy : (p r : ℕ) (s : List ℕ) (f : Found) → store p r s (then_tidy f) ≡ tidied (store p r s f)
unfolding then_tidy tidied
store_tidy p r s (found n rest) = refl
store_tidy p r s nothing = refl

field_tidy : (f : Field) (p : ℕ) (x : State) → take_field f p (tidied x) ≡ tidied (take_field f p x)
unfolding take_field tidied
field_tidy f p (going cs s) = rw (skip_tidy cs, find_tidy f (skip cs)) (store_tidy p (field_expected f) s (find f (skip cs)))
field_tidy f p (wrong n) = refl

fields_tidy : (f : Field) (n p : ℕ) (x : State) → take_fields f n p (tidied x) ≡ tidied (take_fields f n p x)
unfolding take_fields
fields_tidy f zero p x = refl
fields_tidy f (suc n) p x = rw (field_tidy f p x) (fields_tidy f n (suc p) (take_field f p x))

form_tidy : (f : Form) (x : State) → take_form f (tidied x) ≡ tidied (take_form f x)
unfolding take_form
form_tidy f x =
    rw (fields_tidy register f.registers f.first x, fields_tidy lane f.lanes 6 (take_fields register f.registers f.first x))
    (fields_tidy byte f.bytes 16 (take_fields lane f.lanes 6 (take_fields register f.registers f.first x)))

-- the mark, and the line's end
mark_tidy : (s u : List ℕ) → take_mark s (tidy (skip u)) ≡ tidied (take_mark s (skip u))
unfolding tidy tidied
mark_tidy s u = by_skip (λ t. take_mark s (tidy t) ≡ tidied (take_mark s t)) refl some u
  where
    some : (c : ℕ) (cs : List ℕ) → blank c ≡ false → take_mark s (tidy (c ∷ cs)) ≡ tidied (take_mark s (c ∷ cs))
    some c cs e =
        ap (take_mark s) (tidy_solid c cs e)
        ∙ ap (λ (t : List ℕ). take_field mark 7 (going t s)) (sym (tidy_solid c cs e))
        ∙ field_tidy mark 7 (going (c ∷ cs) s)

word_skip_tidy : (cs : List ℕ) → word (skip (tidy cs)) ≡ word (skip cs)
word_skip_tidy cs = ap word (skip_tidy cs) ∙ word_tidy (skip cs)

apart_spaced : (d : ℕ) (ds : List ℕ) → apart (spaced (d ∷ ds)) ≡ true
apart_spaced d ds = by (eqb d 32) (eqb-true d 32)
  where
    by : (b : Bool) → (b ≡ true → d ≡ 32) → apart (cond b (d ∷ ds) (32 ∷ d ∷ ds)) ≡ true
    by true h = rw (h refl)
    by false h = refl

nothing_there : word (skip []) ≡ []
unfolding before onward
nothing_there = refl

apart_tidy : (c : ℕ) (w cs : List ℕ) → (apart (tidy cs) && same (word (skip cs)) (c ∷ w)) ≡ (apart cs && same (word (skip cs)) (c ∷ w))
unfolding tidy
apart_tidy x w [] = refl
apart_tidy x w (c ∷ cs) = by (blank c) refl (tidy cs) refl
  where
    and_false : (p q : Bool) → q ≡ false → (p && q) ≡ false
    and_false true q e = e
    and_false false q e = refl

    by : (b : Bool) → blank c ≡ b → (ds : List ℕ) → tidy cs ≡ ds
        → (apart (tidy (c ∷ cs)) && same (word (skip (c ∷ cs))) (x ∷ w)) ≡ (blank c && same (word (skip (c ∷ cs))) (x ∷ w))
    by false e ds f = rw (tidy_solid c cs e)
    by true e [] f =
        let none : word (skip (c ∷ cs)) ≡ [] = sym (word_skip_tidy (c ∷ cs)) ∙ ap (λ (t : List ℕ). word (skip t)) (tidy_blank c cs e ∙ ap spaced f)
        ∙ nothing_there in
        rw none (and_false (apart (tidy (c ∷ cs))) false refl ∙ sym (and_false (blank c) false refl))
    by true e (d ∷ ds) f = rw (tidy_blank c cs e, f, apart_spaced d ds, e)

packed_tidy : (x : State) → take_packed (tidied x) ≡ tidied (take_packed x)
unfolding take_packed tidied codes
packed_tidy (wrong n) = refl
packed_tidy (going cs s) =
    rw (word_skip_tidy cs, apart_tidy _ _ cs, skip_tidy cs, after_tidy (skip cs), skip_tidy (after (skip cs)))
    (by (apart cs && same (word (skip cs)) (codes "packed")) (mark_tidy s (after (skip cs))))
  where
    by : (b : Bool) → take_mark s (tidy (skip (after (skip cs)))) ≡ tidied (take_mark s (skip (after (skip cs))))
        → cond b (take_mark s (tidy (skip (after (skip cs))))) (going (tidy cs) s) ≡ tidied (cond b (take_mark s (skip (after (skip cs)))) (going cs s))
    by true e = e
    by false e = refl

end_tidy : (x : State) → end_line (tidied x) ≡ end_line x
unfolding tidied tidy
end_tidy (wrong n) = refl
end_tidy (going cs s) = rw (skip_tidy cs) (by_skip (λ t. nothing_more s (tidy t) ≡ nothing_more s t) refl some cs)
  where
    some : (c : ℕ) (r : List ℕ) → blank c ≡ false → nothing_more s (tidy (c ∷ r)) ≡ nothing_more s (c ∷ r)
    some c r e = ap (nothing_more s) (tidy_solid c r e)

named_tidy : (n : ℕ) (cs : List ℕ) → named n (tidy cs) ≡ named n cs
unfolding named tidied
named_tidy n cs = ap (λ (l : Line). cond (ltb n 276) l (refused 1))
    (ap (λ (x : State). end_line (take_packed x)) formed ∙ ap end_line (packed_tidy read) ∙ end_tidy (take_packed read))
  where
    read : State
    read = take_form (form n) (going cs (of_operation n))

    formed : take_form (form n) (going (tidy cs) (of_operation n)) ≡ tidied read
    formed = form_tidy (form n) (going cs (of_operation n))

stated_tidy : (u : List ℕ) → stated (tidy (skip u)) ≡ stated (skip u)
unfolding stated tidy codes tidied
stated_tidy u = by_skip (λ t. stated (tidy t) ≡ stated t) refl some u
  where
    some : (c : ℕ) (cs : List ℕ) → blank c ≡ false → stated (tidy (c ∷ cs)) ≡ stated (c ∷ cs)
    some c cs e =
        let w : word (c ∷ tidy cs) ≡ word (c ∷ cs) = ap word (sym (tidy_solid c cs e)) ∙ word_tidy (c ∷ cs) in
        let a : after (c ∷ tidy cs) ≡ tidy (after (c ∷ cs)) = ap after (sym (tidy_solid c cs e)) ∙ after_tidy (c ∷ cs) in
        ap stated (tidy_solid c cs e)
        ∙ rw (w, a, named_tidy (names.number (word (c ∷ cs))) (after (c ∷ cs)))
        (ap
        (λ (l : Line). cond (same (word (c ∷ cs)) (codes "step")) l (named (names.number (word (c ∷ cs))) (after (c ∷ cs))))
        (ap end_line (fields_tidy byte 32 0 (going (after (c ∷ cs)) blank_step)) ∙ end_tidy (take_fields byte 32 0 (going (after (c ∷ cs)) blank_step))))

-- A line is what its tidied statement is.
pub line_tidy : (cs : List ℕ) → line cs ≡ stated (skip (tidy (statement cs)))
unfolding line
line_tidy cs = sym (ap stated (skip_tidy (statement cs)) ∙ stated_tidy (statement cs))

-- The parts of a line, as the code writes them, and how long they are. Assumes nothing.
use mathlib.Core.Path.{◌≡◌, sym, ap, ◌∙◌}
use mathlib.Core.Bool.{Bool, true, false, cond}
use mathlib.Core.List.{List, [], ◌∷◌, ◌++◌, append_assoc, append-nil}
use Prim.Native.Nat.{ℕ, zero, suc, ◌+◌, ◌*◌, ◌%◌, ◌≤◌}
use native.Mathlib.Nat.{add-zero, add-suc, suc-add}
use native.Mathlib.Omega.{arith}
use borrow.Author.Tests.{eq-eqb, ne_eqb}
use lib.Dec.{eqb}
use lib.ListN.{length, get_or, take, drop, length-append}
use lib.Seq.{take-append_seam}
use Rattle.program_digits.specs.Codes.{codes}
use Rattle.program_digits.specs.Digits.{hex, hex_bytes}
use Rattle.program_digits.specs.Put.{Wrote, Filled}
use Rattle.program_digits.proofs.Laws.{length_digits, decimal_length}
use Rattle.program_digits.proofs.Puts.{then, filled}
use Rattle.program_words.specs.Cut.{same}
use Rattle.program_names.specs.Names.{name}
use Rattle.program_names.proofs.Table.{name_length}
use Rattle.program_fields.specs.Fields.{Field, register, lane, mark as a-mark, byte}
use Rattle.program_forms.specs.Forms.{Form, form}
use Rattle.program_forms.proofs.Fits.{Fitting, form_fits}
use Rattle.program_line.specs.Line.{Line, line}
use Rattle.program_line.specs.Reads.{ReadAs}
use Rattle.program_line.specs.declared.Reason.{Reason}
use Rattle.std.specs.Prelude.{Some, None, Ok, Err}
use Rattle.calculator_rules.specs.Definition.{operation}
use Rattle.program_step.specs.Shown.{field, fields, mark, of_form, plain, whole, says, shown}

-- a byte, with or without a blank before it
module _ (place b : ℕ) where
  pub byte_apart : place % 4 ≡ 0 → codes " " ++ hex_bytes (b ∷ []) ≡ field byte place b
  unfolding field hex_bytes
  byte_apart e = rw (eq-eqb (place % 4) 0 e, append-nil)

  pub byte_beside : (place % 4 ≡ 0 → ⊥) → hex_bytes (b ∷ []) ≡ field byte place b
  unfolding field hex_bytes
  byte_beside e = rw (ne_eqb (place % 4) 0 e, append-nil)

-- one field more
pub fields_more : (f : Field) (n p : ℕ) (s : List ℕ) → fields f n p s ++ field f (p + n) (get_or s (p + n) 0) ≡ fields f (suc n) p s
unfolding fields
fields_more f zero p s = rw (add-zero p) (sym (append-nil (field f p (get_or s p 0))))
fields_more f (suc n) p s =
    append_assoc (field f p (get_or s p 0)) (fields f n (suc p) s) _
    ∙ ap (λ (r : List ℕ). field f p (get_or s p 0) ++ r) (rw (add-suc p n, ← suc-add p n) (fields_more f n (suc p) s))

-- a mark
pub mark_none : (m : ℕ) → m ≡ 0 → [] ≡ mark m
unfolding mark
mark_none m e = rw (eq-eqb m 0 e)

pub mark_one : (m : ℕ) → m ≡ 1 → codes " packed" ≡ mark m
unfolding mark codes
mark_one m e = rw e

pub mark_more : (m : ℕ) → (m ≡ 0 → ⊥) → (m ≡ 1 → ⊥) → codes " packed" ++ field a-mark 7 m ≡ mark m
unfolding mark
mark_more m e f = rw (ne_eqb m 0 e, ne_eqb m 1 f)

-- how long they are, whatever the bytes
field_length : (f : Field) (p b : ℕ) → length (field f p b) ≤ 22
unfolding field codes
field_length register p b = omega (arith, decimal_length b)
field_length lane p b = omega (arith, decimal_length b)
field_length a-mark p b = omega (arith, decimal_length b)
field_length byte p b = by (eqb (p % 4) 0)
  where
    by : (q : Bool) → length (cond q (codes " ") [] ++ hex 2 b) ≤ 22
    by true = omega (arith, length_digits 16 2 b)
    by false = omega (arith, length_digits 16 2 b)

byte_length : (p b : ℕ) → length (field byte p b) ≤ 3
unfolding field codes
byte_length p b = by (eqb (p % 4) 0)
  where
    by : (q : Bool) → length (cond q (codes " ") [] ++ hex 2 b) ≤ 3
    by true = omega (arith, length_digits 16 2 b)
    by false = omega (arith, length_digits 16 2 b)

fields_length : (f : Field) (k : ℕ) → ((p b : ℕ) → length (field f p b) ≤ k) → (n p : ℕ) (s : List ℕ) → length (fields f n p s) ≤ n * k
unfolding fields
fields_length f k h zero p s = omega arith
fields_length f k h (suc n) p s = simp length-append (omega (arith, h p (get_or s p 0), fields_length f k h n (suc p) s))

mark_length : (m : ℕ) → length (mark m) ≤ 29
unfolding mark codes
mark_length m = by (eqb m 0) (eqb m 1)
  where
    by : (p q : Bool) → length (cond p [] (codes " packed" ++ cond q [] (field a-mark 7 m))) ≤ 29
    by true q = omega arith
    by false true = omega arith
    by false false = omega (arith, field_length a-mark 7 m)

of_form_length : (f : Form) → Fitting f → (s : List ℕ) → length (of_form f s) ≤ 158
unfolding of_form
of_form_length f fit s = simp length-append (omega (arith, registers, lanes, bytes))
  where
    registers : length (fields register f.registers f.first s) ≤ 88
    registers = omega (arith, fields_length register 22 (field_length register) f.registers f.first s, fit.registers, fit.first)

    lanes : length (fields lane f.lanes 6 s) ≤ 22
    lanes = omega (arith, fields_length lane 22 (field_length lane) f.lanes 6 s, fit.lanes)

    bytes : length (fields byte f.bytes 16 s) ≤ 48
    bytes = omega (arith, fields_length byte 3 byte_length f.bytes 16 s, fit.bytes)

plain_length : (s : List ℕ) → length (plain s) ≤ 222
unfolding plain
plain_length s =
    simp length-append
    (omega (arith, name_length (operation s), of_form_length (form (operation s)) (form_fits (operation s)) s, mark_length (get_or s 7 0)))

pub shown_length : (s : List ℕ) → length (shown s) ≤ 222
unfolding shown whole codes
shown_length s = by (says (line (plain s)) s)
  where
    by : (b : Bool) → length (cond b (plain s) (whole s)) ≤ 222
    by true = plain_length s
    by false = omega (arith, fields_length byte 3 byte_length 32 0 s)

-- a plain line, part by part
pub plain_put : {out o1 o2 o3 o4 o5 : List ℕ} {at m1 m2 m3 m4 r : ℕ} (s : List ℕ) (f : Form)
    → f ≡ form (operation s)
    → Wrote out at (name (operation s)) o1 m1
    → Wrote o1 m1 (fields register f.registers f.first s) o2 m2
    → Wrote o2 m2 (fields lane f.lanes 6 s) o3 m3
    → Wrote o3 m3 (fields byte f.bytes 16 s) o4 m4
    → Wrote o4 m4 (mark (get_or s 7 0)) o5 r
    → Wrote out at (plain s) o5 r
unfolding plain of_form
plain_put s f e w1 w2 w3 w4 w5 = rw (← e) (then w1 (then (then w2 (then w3 w4)) w5))

-- what the code reads back
module _ (l : Line) (s : List ℕ) where
  pub says_nothing : ReadAs l (Ok None) → false ≡ says l s
  says_nothing e = rw (← e.says)

  pub says_refused : (reason : Reason) → ReadAs l (Err reason) → false ≡ says l s
  says_refused reason e = rw (← e.says)

  pub says_step : (t : List ℕ) (b : Bool) → ReadAs l (Ok (Some t)) → same t s ≡ b → b ≡ says l s
  says_step t b e m = rw (← e.says, m)

-- a plain line that is tried
module _ {zeros trial : List ℕ} {n : ℕ} (s : List ℕ) (z : length zeros ≡ 256) (w : Wrote zeros 0 (plain s) trial n) where
  there : Filled zeros (plain s) trial n
  there = filled (omega (arith, plain_length s)) z w

  trial_is : take n trial ≡ plain s
  trial_is = rw (there.count, there.is) (take-append_seam (plain s) (drop (length (plain s)) zeros))

  pub trial_fits : n ≤ length trial
  trial_fits = there.room

  pub put_plainly : {out o1 : List ℕ} {at r : ℕ} → true ≡ says (line (take n trial)) s → Wrote out at (take n trial) o1 r → Wrote out at (shown s) o1 r
  unfolding shown
  put_plainly e v = rw (← rw trial_is at e) (rw trial_is at v)

  pub put_wholly : {out o1 : List ℕ} {at r : ℕ} → false ≡ says (line (take n trial)) s → Wrote out at (whole s) o1 r → Wrote out at (shown s) o1 r
  unfolding shown
  put_wholly e v = rw (← rw trial_is at e) v

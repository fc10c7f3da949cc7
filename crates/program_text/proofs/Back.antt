-- Round trip: what is written for a list of steps is read back as that list. Assumes nothing.
use mathlib.Core.Path.{◌≡◌, refl, sym, ap, ◌∙◌}
use mathlib.Core.Bool.{Bool, true, false, not, cond, ◌&&◌, ◌||◌, false≢true}
use mathlib.Core.List.{List, [], ◌∷◌, ◌++◌, append_assoc, append-nil}
use Prim.Native.Nat.{ℕ, zero, suc, ◌+◌, ◌-◌, ◌*◌, ◌/◌, ◌%◌, ◌<◌, ◌≤◌}
use native.Mathlib.Nat.{mod-lt, not-suc-le-zero, le_of_suc-le-suc}
use native.Mathlib.Omega.{arith}
use borrow.Author.Tests.{lt-ltb, le-leb, eqb-true, eqb-false, leb-true, not-true, not-false}
use lib.Dec.{eqb, leb}
use lib.ListN.{length, get_or, take, drop, set, replicate, length-drop, take-append-drop}
use lib.Seq.{take_all, take-suc, set_at, length-take-le, get_or-drop}
use Rattle.program_arguments.specs.Arguments.{digit}
use Rattle.calculator_rules.specs.Definition.{operation, unless, list_refusal}
use Rattle.program_digits.specs.Codes.{codes}
use Rattle.program_digits.specs.Digits.{glyph, digits, places, decimal, hex}
use Rattle.program_answer.specs.Output.{output_alone}
use Rattle.program_words.specs.Cut.{newline, blank, solid, before, onward, comment, statement, pieces, skip}
use Rattle.program_words.proofs.Free.{free, passes, free_append, free_piece}
use Rattle.program_words.proofs.Pieces.{same_true}
use Rattle.program_names.specs.Names.{name}
use Rattle.program_names.proofs.Table.{odd, name_free, both_left, both_right}
use Rattle.program_fields.specs.Fields.{Field, register, lane, mark as a-mark, byte, found, find}
use Rattle.program_forms.specs.Forms.{Form, form}
use Rattle.program_line.specs.Line.{Line, empty, step, refused, going, take_field, take_fields, blank_step, end_line, stated, line}
use Rattle.program_step.specs.Shown.{field, fields, mark, of_form, plain, whole, says, shown}
use Rattle.program_assemble.specs.Text.{fine, of_lines, assembled}
use Rattle.program_assemble.specs.Text as assemble
use Rattle.program_disassemble.specs.Written.{padded, numbered, lines, disassembled, list_refused}
use Rattle.program_disassemble.specs.Written as disassemble
use Rattle.program_disassemble.proofs.Lines.{text_length}
use Rattle.program_text.specs.Words.{spaced, tidy}
use Rattle.program_text.proofs.Freedom.{blanks_free, hash_free}

-- a test that passes at each number below n
abbrev pub below : (ℕ → Bool) → ℕ → Bool
below f zero = true
below f (suc n) = f n && below f n

pub at : (f : ℕ → Bool) (n : ℕ) → below f n ≡ true → (k : ℕ) → k < n → f k ≡ true
at f zero t k h = absurd (not-suc-le-zero h)
at f (suc n) t k h = by (eqb k n) refl (at f n (both_right (f n) _ t) k)
  where
    by : (b : Bool) → eqb k n ≡ b → (k < n → f k ≡ true) → f k ≡ true
    by true e r = rw (eqb-true k n e) (both_left (f n) _ t)
    by false e r = r (omega (arith, eqb-false k n e))

-- a character with which a comment may begin
abbrev pub tick : ℕ → Bool
tick c = eqb c 35 || eqb c 59

-- a hex digit is read back, and is no blank, no comment and no line's end
abbrev good : ℕ → Bool
good d = eqb (digit (glyph d)) d && not (odd (glyph d))

goods : below good 16 ≡ true
goods = refl

pub digit_glyph : (d : ℕ) → d < 16 → digit (glyph d) ≡ d
digit_glyph d h = eqb-true _ d (both_left (eqb (digit (glyph d)) d) _ (at good 16 goods d h))

glyph_even : (d : ℕ) → d < 16 → odd (glyph d) ≡ false
glyph_even d h = not-true _ (both_right (eqb (digit (glyph d)) d) _ (at good 16 goods d h))

-- what is free of more is free of less
none : (a b c d : Bool) → (a || (b || (c || d))) ≡ false → (a ≡ false) × (b ≡ false) × ((c || d) ≡ false)
none true b c d e = absurd (false≢true (sym e))
none false true c d e = absurd (false≢true (sym e))
none false false c d e = (refl, refl, e)

module _ (c : ℕ) (e : odd c ≡ false) where
  pub parts : (newline c ≡ false) × (blank c ≡ false) × (tick c ≡ false)
  parts = none (newline c) (blank c) (eqb c 35) (eqb c 59) e

pub free_less : (q : ℕ → Bool) → ((c : ℕ) → odd c ≡ false → q c ≡ false) → (xs : List ℕ) → free odd xs ≡ true → free q xs ≡ true
free_less q h [] e = refl
free_less q h (x ∷ xs) e = let p = passes (odd x) (free odd xs) e in rw (h x p.0) (free_less q h xs p.1)

-- digits are plain characters
module _ (q : ℕ → Bool) (plainly : (c : ℕ) → odd c ≡ false → q c ≡ false) where
  free_digits : (base k n : ℕ) → 0 < base → base ≤ 16 → free q (digits base k n) ≡ true
  unfolding digits
  free_digits base zero n h l = refl
  free_digits base (suc k) n h l =
      free_append q (digits base k (n / base)) (glyph (n % base) ∷ []) (free_digits base k (n / base) h l)
      (rw (plainly (glyph (n % base)) (glyph_even (n % base) (omega (arith, mod-lt n h)))))

  pub free_decimal : (n : ℕ) → free q (decimal n) ≡ true
  unfolding decimal
  free_decimal n = free_digits 10 (places 19 n) n (omega arith) (omega arith)

-- and so is a line, where a space, an `r` and the words are
module _ (q : ℕ → Bool) (plainly : (c : ℕ) → odd c ≡ false → q c ≡ false) (space : q 32 ≡ false) (r : q 114 ≡ false)
    (word-packed : free q (codes " packed") ≡ true) (word-step : free q (codes "step") ≡ true) where
  free_field : (f : Field) (p b : ℕ) → free q (field f p b) ≡ true
  unfolding field codes
  free_field register p b = rw (space, r) (free_decimal q plainly b)
  free_field lane p b = rw space (free_decimal q plainly b)
  free_field a-mark p b = rw space (free_decimal q plainly b)
  free_field byte p b = by (eqb (p % 4) 0)
    where
      by : (t : Bool) → free q (cond t (codes " ") [] ++ hex 2 b) ≡ true
      by true = rw space (free_digits q plainly 16 2 b (omega arith) (omega arith))
      by false = free_digits q plainly 16 2 b (omega arith) (omega arith)

  free_fields : (f : Field) (n p : ℕ) (s : List ℕ) → free q (fields f n p s) ≡ true
  unfolding fields
  free_fields f zero p s = refl
  free_fields f (suc n) p s =
      free_append q (field f p (get_or s p 0)) (fields f n (suc p) s) (free_field f p (get_or s p 0)) (free_fields f n (suc p) s)

  free_mark : (m : ℕ) → free q (mark m) ≡ true
  unfolding mark
  free_mark m = by (eqb m 0) (eqb m 1)
    where
      by : (a b : Bool) → free q (cond a [] (codes " packed" ++ cond b [] (field a-mark 7 m))) ≡ true
      by true b = refl
      by false true = free_append q (codes " packed") [] word-packed refl
      by false false = free_append q (codes " packed") (field a-mark 7 m) word-packed (free_field a-mark 7 m)

  free_form : (f : Form) (s : List ℕ) → free q (of_form f s) ≡ true
  unfolding of_form
  free_form f s =
      free_append q (fields register f.registers f.first s) (fields lane f.lanes 6 s ++ fields byte f.bytes 16 s)
      (free_fields register f.registers f.first s)
      (free_append q (fields lane f.lanes 6 s) (fields byte f.bytes 16 s) (free_fields lane f.lanes 6 s) (free_fields byte f.bytes 16 s))

  pub free_plain : (s : List ℕ) → free q (plain s) ≡ true
  unfolding plain
  free_plain s =
      let n = operation s in
      free_append q (name n) (of_form (form n) s ++ mark (get_or s 7 0)) (free_less q plainly (name n) (name_free n))
      (free_append q (of_form (form n) s) (mark (get_or s 7 0)) (free_form (form n) s) (free_mark (get_or s 7 0)))

  free_whole : (s : List ℕ) → free q (whole s) ≡ true
  unfolding whole
  free_whole s = free_append q (codes "step") (fields byte 32 0 s) word-step (free_fields byte 32 0 s)

  pub free_shown : (s : List ℕ) → free q (shown s) ≡ true
  unfolding shown
  free_shown s = by (says (line (plain s)) s)
    where
      by : (b : Bool) → free q (cond b (plain s) (whole s)) ≡ true
      by true = free_plain s
      by false = free_whole s

  pub free_padded : (s : List ℕ) → free q (padded (shown s)) ≡ true
  free_padded s = free_append q (shown s) _ (free_shown s) (spaces (64 - length (shown s)))
    where
      spaces : (n : ℕ) → free q (replicate n 32) ≡ true
      spaces zero = refl
      spaces (suc n) = rw space (spaces n)

-- two digits are found as their byte
two_found : (b : ℕ) (cs : List ℕ) → b < 256 → find byte (skip (hex 2 b ++ cs)) ≡ found b cs
unfolding find onward digits
two_found b cs h =
    rw (
      (parts (glyph (b / 16 % 16)) (glyph_even (b / 16 % 16) high)).1,
      digit_glyph (b / 16 % 16) high,
      digit_glyph (b % 16) low,
      lt-ltb (b / 16 % 16) 16 high,
      lt-ltb (b % 16) 16 low,
    )
    (ap (λ (n : ℕ). found n cs) whole_byte)
  where
    high : b / 16 % 16 < 16
    high = omega arith

    low : b % 16 < 16
    low = omega arith

    whole_byte : 16 * (b / 16 % 16) + b % 16 ≡ b
    whole_byte = omega arith

pub byte_taken : (p b : ℕ) (cs s : List ℕ) → b < 256 → take_field byte p (going (field byte p b ++ cs) s) ≡ going cs (set s p b)
unfolding take_field field codes onward
byte_taken p b cs s h = by (eqb (p % 4) 0)
  where
    by : (q : Bool) → take_field byte p (going ((cond q (codes " ") [] ++ hex 2 b) ++ cs) s) ≡ going cs (set s p b)
    by true = rw (two_found b cs h)
    by false = rw (two_found b cs h)

-- the bytes of a step, one after the other
bytes_taken : (s : List ℕ) → length s ≡ 32 → ((i : ℕ) → get_or s i 0 < 256) → (n p : ℕ) → p + n ≡ 32
    → take_fields byte n p (going (fields byte n p s) (take p s ++ replicate n 0)) ≡ going [] s
unfolding take_fields fields
bytes_taken s l small zero p e = rw (append-nil (take p s), take_all p s (omega arith))
bytes_taken s l small (suc n) p e =
    rw (
      byte_taken p (get_or s p 0) (fields byte n (suc p) s) (take p s ++ (0 ∷ replicate n 0)) (small p),
      set_at (take p s) 0 (replicate n 0) (get_or s p 0) p
          (length-take-le p s (omega arith)),
      ← more,
    )
    (bytes_taken s l small n (suc p) (omega arith))
  where
    more : take (suc p) s ++ replicate n 0 ≡ take p s ++ (get_or s p 0 ∷ replicate n 0)
    more = rw (take-suc s p 0 (omega arith)) (append_assoc (take p s) (get_or s p 0 ∷ []) (replicate n 0))

-- whether a comment begins, by whether `#` and `;` stand first
abbrev comment_of : Bool → Bool → List ℕ → Bool
comment_of a b [] = a
comment_of a b (y ∷ ys) = a || (b && eqb y 59)

comment_by : (x : ℕ) (xs : List ℕ) → comment (x ∷ xs) ≡ comment_of (eqb x 35) (eqb x 59) xs
comment_by x [] = refl
comment_by x (y ∷ ys) = refl

-- a line in which no comment begins is a statement
no_comment : (x : ℕ) (xs : List ℕ) → tick x ≡ false → comment (x ∷ xs) ≡ false
no_comment x xs e = comment_by x xs ∙ by (eqb x 35) (eqb x 59) e xs
  where
    by : (a b : Bool) → (a || b) ≡ false → (xs : List ℕ) → comment_of a b xs ≡ false
    by true b f xs = absurd (false≢true (sym f))
    by false true f xs = absurd (false≢true (sym f))
    by false false f [] = refl
    by false false f (y ∷ ys) = refl

pub statement_all : (xs : List ℕ) → free tick xs ≡ true → statement xs ≡ xs
unfolding statement
statement_all [] e = refl
statement_all (x ∷ xs) e =
    let p = passes (tick x) (free tick xs) e in
    rw (no_comment x xs p.0) (ap (λ (r : List ℕ). x ∷ r) (statement_all xs p.1))

shown_ticks : (s : List ℕ) → free tick (shown s) ≡ true
unfolding codes
shown_ticks s = free_shown tick (λ c e. (parts c e).2) refl refl refl refl s

whole_ticks : (s : List ℕ) → free tick (whole s) ≡ true
unfolding codes
whole_ticks s = free_whole tick (λ c e. (parts c e).2) refl refl refl refl s

-- a whole line
step_word : (t : List ℕ) → stated (skip (codes "step" ++ (32 ∷ t))) ≡ end_line (take_fields byte 32 0 (going (32 ∷ t) blank_step))
unfolding codes before onward stated
step_word t = refl

starts : (s : List ℕ) → fields byte 32 0 s ≡ 32 ∷ (hex 2 (get_or s 0 0) ++ fields byte 31 1 s)
unfolding fields field codes
starts s = refl

pub ended : (s : List ℕ) → end_line (going [] s) ≡ step s
unfolding onward
ended s = refl

whole_back : (s : List ℕ) → length s ≡ 32 → ((i : ℕ) → get_or s i 0 < 256) → line (whole s) ≡ step s
unfolding line whole
whole_back s l small =
    ap (λ (t : List ℕ). stated (skip t)) (statement_all (whole s) (whole_ticks s))
    ∙ ap (λ (t : List ℕ). stated (skip (codes "step" ++ t))) (starts s)
    ∙ step_word _
    ∙ ap (λ (t : List ℕ). end_line (take_fields byte 32 0 (going t blank_step))) (sym (starts s))
    ∙ ap end_line (bytes_taken s l small 32 0 refl)
    ∙ ended s

says_so : (l : Line) (s : List ℕ) → says l s ≡ true → l ≡ step s
says_so empty s e = cc
says_so (step t) s e = ap step (same_true t s e)
says_so (refused n) s e = cc

-- Each line that is written is read back as its step.
pub line_back : (s : List ℕ) → length s ≡ 32 → ((i : ℕ) → get_or s i 0 < 256) → line (shown s) ≡ step s
unfolding shown
line_back s l small = by (says (line (plain s)) s) refl
  where
    by : (b : Bool) → says (line (plain s)) s ≡ b → line (cond b (plain s) (whole s)) ≡ step s
    by true e = says_so (line (plain s)) s e
    by false e = whole_back s l small

-- a line with its number
tidy_behind : (l b : List ℕ) → free solid b ≡ true → tidy (l ++ b) ≡ tidy l
unfolding tidy
tidy_behind [] [] e = refl
tidy_behind [] (x ∷ xs) e =
    let p = passes (solid x) (free solid xs) e in
    let is : blank x ≡ true = not-false (blank x) p.0 in
    rw (is, tidy_behind [] xs p.1)
tidy_behind (c ∷ cs) b e = ap (λ (t : List ℕ). cond (blank c) (spaced t) (c ∷ t)) (tidy_behind cs b e)

spaces : (n : ℕ) → free solid (replicate n 32 ++ (32 ∷ [])) ≡ true
spaces zero = refl
spaces (suc n) = spaces n

ticks : (n : ℕ) → free tick (replicate n 32 ++ (32 ∷ [])) ≡ true
ticks zero = refl
ticks (suc n) = ticks n

gap : List ℕ → List ℕ
gap l = replicate (64 - length l) 32 ++ (32 ∷ [])

piece : ℕ → List ℕ → List ℕ
piece k s = (shown s ++ gap (shown s)) ++ (35 ∷ 32 ∷ decimal k)

numbered_piece : (k : ℕ) (s r : List ℕ) → numbered k s ++ r ≡ piece k s ++ (10 ∷ r)
unfolding numbered piece gap codes
numbered_piece k s r = simp append_assoc

piece_line : (k : ℕ) (s : List ℕ) → line (piece k s) ≡ line (shown s)
unfolding piece gap
piece_line k s =
    let l = shown s in
    let b : List ℕ = replicate (64 - length l) 32 ++ (32 ∷ []) in
    hash_free (l ++ b) (32 ∷ decimal k)
    ∙ blanks_free (l ++ b) l
    (ap tidy (statement_all (l ++ b) (free_append tick l b (shown_ticks s) (ticks (64 - length l))))
    ∙ tidy_behind l b (spaces (64 - length l))
    ∙ sym (ap tidy (statement_all l (shown_ticks s))))

piece_ends : (k : ℕ) (s : List ℕ) → free newline (piece k s) ≡ true
unfolding piece gap codes
piece_ends k s =
    let l = shown s in
    free_append newline (l ++ (replicate (64 - length l) 32 ++ (32 ∷ []))) (35 ∷ 32 ∷ decimal k)
    (free_append newline l (replicate (64 - length l) 32 ++ (32 ∷ [])) (free_shown newline (λ c e. (parts c e).0) refl refl refl refl s)
    (blanks (64 - length l)))
    (free_decimal newline (λ c e. (parts c e).0) k)
  where
    blanks : (n : ℕ) → free newline (replicate n 32 ++ (32 ∷ [])) ≡ true
    blanks zero = refl
    blanks (suc n) = blanks n

-- bytes
abbrev pub Bytes : List ℕ → Type 0
Bytes s = (i : ℕ) → get_or s i 0 < 256

bytes_take : (n : ℕ) (s : List ℕ) → Bytes s → Bytes (take n s)
bytes_take zero s h i = omega arith
bytes_take (suc n) [] h i = omega arith
bytes_take (suc n) (x ∷ xs) h zero = h 0
bytes_take (suc n) (x ∷ xs) h (suc i) = bytes_take n xs (λ j. h (suc j)) i

bytes_drop : (n : ℕ) (s : List ℕ) → Bytes s → Bytes (drop n s)
bytes_drop n s h i = rw (get_or-drop n s i 0) (h (n + i))

no_bytes : (list : List ℕ) → length list ≡ 0 → fine [] ≡ fine list
no_bytes [] e = refl
no_bytes (x ∷ xs) e = absurd (not-suc-le-zero (zero_of (length xs) e))
  where
    zero_of : (n : ℕ) → suc n ≡ 0 → 1 ≤ 0
    zero_of n h = omega arith

lines_back : (n : ℕ) (list : List ℕ) (room j k : ℕ) → length list ≡ 32 * n → Bytes list → n ≤ room
    → of_lines room j (pieces newline (lines k n list)) ≡ fine list
unfolding of_lines lines pieces line statement onward stated
lines_back zero list room j k l h m = no_bytes list (omega arith)
lines_back (suc n) list zero j k l h m = absurd (not-suc-le-zero m)
lines_back (suc n) list (suc room) j k l h m =
    rw (
      numbered_piece k (take 32 list) (lines (suc k) n (drop 32 list)),
      free_piece newline (piece k (take 32 list)) 10 (lines (suc k) n (drop 32 list))
          (piece_ends k (take 32 list)) refl,
      piece_line k (take 32 list),
      line_back (take 32 list) here (bytes_take 32 list h),
      lines_back n
          (drop 32 list) room (suc j) (suc k) later (bytes_drop 32 list h) (le_of_suc-le-suc m),
      take-append-drop,
    )
  where
    here : length (take 32 list) ≡ 32
    here = length-take-le 32 list (omega arith)

    later : length (drop 32 list) ≡ 32 * n
    later = rw (length-drop 32 list) (omega arith)

-- a list that `lanes` takes is of at most 256 whole steps
whole_steps_of : (n : ℕ) → list_refusal n 0 256 ≡ 0 → (n ≡ 32 * (n / 32)) × (n / 32 ≤ 256)
whole_steps_of n e = by (eqb (n % 32) 0) (eqb-true (n % 32) 0) (leb n 8192) (leb-true n 8192) e
  where
    by : (p : Bool) → (p ≡ true → n % 32 ≡ 0) → (q : Bool) → (q ≡ true → n ≤ 8192)
        → unless true 17 (unless (cond p q false) 1 (unless (leb 0 (n / 32)) 19 0)) ≡ 0
        → (n ≡ 32 * (n / 32)) × (n / 32 ≤ 256)
    by true g true h f = let a = g refl in let b = h refl in (omega arith, omega arith)
    by true g false h f = let z : ◌≡◌ {A = ℕ} 1 0 = f in absurd (omega arith)
    by false g q h f = let z : ◌≡◌ {A = ℕ} 1 0 = f in absurd (omega arith)

-- Round trip: for every list of at most 256 steps, what is written for it is read back as that list, byte for byte.
pub round_trip : (list : List ℕ) → Bytes list → list_refused list ≡ 0 → assembled (disassembled list) ≡ fine list
unfolding assembled
round_trip list h e =
    let w = whole_steps_of (length list) e in
    lines_back (length list / 32) list 256 1 1 w.0 h w.1

-- and so the programs: what `disassemble` writes, `assemble` takes, and writes the list.
pub programs_round_trip : (list : List ℕ) → Bytes list → list_refused list ≡ 0 → assemble.told (disassemble.told list).output ≡ output_alone list
unfolding assemble.told disassemble.told
programs_round_trip list h e =
    rw (e, le-leb (length (disassembled list)) 65536 (text_length list e), round_trip list h e)

-- Freedom: blanks, tabs, comments and the last newline change nothing. Assumes nothing.
use mathlib.Core.Path.{◌≡◌, refl, sym, ap, ◌∙◌}
use mathlib.Core.Bool.{Bool, true, false, cond, ◌&&◌, ◌||◌}
use mathlib.Core.List.{List, [], ◌∷◌, ◌++◌, map}
use Prim.Native.Nat.{ℕ, zero, suc, ◌<◌}
use native.Mathlib.Nat.{not-suc-le-zero}
use native.Mathlib.Omega.{arith}
use lib.Dec.{eqb}
use lib.ListN.{length}
use Rattle.program_words.specs.Cut.{newline, onward, skip, comment, statement, onto, pieces}
use Rattle.program_line.specs.Line.{Line, empty, step, refused, stated, line}
use Rattle.program_assemble.specs.Text.{Assembled, after_them, next_line, of_lines, assembled}
use Rattle.program_text.specs.Words.{tidy, read_of}
use Rattle.program_text.proofs.Tidy.{line_tidy}

-- Blanks: two lines whose statements have the same words stand for the same. How many blanks stand between words, before the first and behind the last, and
-- whether they are spaces or tabs, does not show in a tidied statement.
pub blanks_free : (a b : List ℕ) → tidy (statement a) ≡ tidy (statement b) → line a ≡ line b
blanks_free a b e = line_tidy a ∙ ap (λ (t : List ℕ). stated (skip t)) e ∙ sym (line_tidy b)

-- Comments: what stands behind `#` is no part of the statement, wherever it begins.
or_none : (p q : Bool) → (p || (q && false)) ≡ p
or_none true q = refl
or_none false true = refl
or_none false false = refl

same_comment : (x : ℕ) (ys t : List ℕ) → comment (x ∷ (ys ++ (35 ∷ t))) ≡ comment (x ∷ ys)
same_comment x [] t = or_none (eqb x 35) (eqb x 59)
same_comment x (y ∷ ys) t = refl

hash_opens : (t : List ℕ) → comment (35 ∷ t) ≡ true
hash_opens [] = refl
hash_opens (x ∷ t) = refl

pub hash_cut : (cs t : List ℕ) → statement (cs ++ (35 ∷ t)) ≡ statement cs
unfolding statement
hash_cut [] t = rw (hash_opens t)
hash_cut (x ∷ xs) t = rw (same_comment x xs t) (ap (λ (r : List ℕ). cond (comment (x ∷ xs)) [] (x ∷ r)) (hash_cut xs t))

pub hash_free : (cs t : List ℕ) → line (cs ++ (35 ∷ t)) ≡ line cs
unfolding line
hash_free cs t = ap (λ (r : List ℕ). stated (skip r)) (hash_cut cs t)

-- nor is what stands behind `;;`, where no third `;` stands before it
semicolons_cut : (cs : List ℕ) (c : ℕ) (t : List ℕ) → eqb c 59 ≡ false → statement (cs ++ (c ∷ 59 ∷ 59 ∷ t)) ≡ statement (cs ++ (c ∷ []))
unfolding statement
semicolons_cut [] c t e = rw e (by (eqb c 35))
  where
    by : (b : Bool) → cond (b || false) [] (c ∷ []) ≡ cond b [] (c ∷ [])
    by true = refl
    by false = refl
semicolons_cut (x ∷ []) c t e = ap (λ (r : List ℕ). cond (comment (x ∷ c ∷ [])) [] (x ∷ r)) (semicolons_cut [] c t e)
semicolons_cut (x ∷ y ∷ ys) c t e = ap (λ (r : List ℕ). cond (comment (x ∷ y ∷ ys)) [] (x ∷ r)) (semicolons_cut (y ∷ ys) c t e)

pub semicolons_free : (cs : List ℕ) (c : ℕ) (t : List ℕ) → eqb c 59 ≡ false → line (cs ++ (c ∷ 59 ∷ 59 ∷ t)) ≡ line (cs ++ (c ∷ []))
unfolding line
semicolons_free cs c t e = ap (λ (r : List ℕ). stated (skip r)) (semicolons_cut cs c t e)

pub semicolons_alone : (t : List ℕ) → line (59 ∷ 59 ∷ t) ≡ line []
unfolding line statement
semicolons_alone t = refl

-- what follows a line decides only by what it gives
next_same : (l : Line) (room k : ℕ) (go on : ℕ → Assembled) → ((left : ℕ) → go left ≡ on left) → next_line l room k go ≡ next_line l room k on
next_same empty room k go on h = h room
next_same (step s) zero k go on h = refl
next_same (step s) (suc room) k go on h = ap (after_them s) (h room)
next_same (refused r) room k go on h = refl

-- The last newline.
some_piece : (stop : ℕ → Bool) (xs : List ℕ) → 0 < length (pieces stop xs)
unfolding pieces
some_piece stop [] = omega arith
some_piece stop (x ∷ xs) = by (stop x) (pieces stop xs)
  where
    by : (b : Bool) (ps : List (List ℕ)) → 0 < length (cond b ([] ∷ ps) (onto x ps))
    by true ps = omega arith
    by false [] = omega arith
    by false (p ∷ ps) = omega arith

one_more : (stop : ℕ → Bool) (c : ℕ) → stop c ≡ true → (text : List ℕ) → pieces stop (text ++ (c ∷ [])) ≡ pieces stop text ++ ([] ∷ [])
unfolding pieces
one_more stop c h [] = rw h
one_more stop c h (x ∷ xs) = by (stop x) (one_more stop c h xs) (pieces stop xs) refl
  where
    by : (b : Bool) → pieces stop (xs ++ (c ∷ [])) ≡ pieces stop xs ++ ([] ∷ []) → (ps : List (List ℕ)) → pieces stop xs ≡ ps
        → cond b ([] ∷ pieces stop (xs ++ (c ∷ []))) (onto x (pieces stop (xs ++ (c ∷ []))))
        ≡ cond b ([] ∷ pieces stop xs) (onto x (pieces stop xs)) ++ ([] ∷ [])
    by true e ps f = ap (λ (r : List (List ℕ)). [] ∷ r) e
    by false e [] f = absurd (not-suc-le-zero (rw f at (some_piece stop xs)))
    by false e (p ∷ ps) f = rw (e, f)

last_line : (ls : List (List ℕ)) (room k : ℕ) → of_lines room k (ls ++ ([] ∷ [])) ≡ of_lines room k ls
unfolding of_lines line statement stated onward
last_line [] room k = refl
last_line (l ∷ ls) room k = next_same (line l) room k _ _ (λ left. last_line ls left (suc k))

pub last_newline : (text : List ℕ) → assembled (text ++ (10 ∷ [])) ≡ assembled text
unfolding assembled
last_newline text = ap (of_lines 256 1) (one_more newline 10 refl text) ∙ last_line (pieces newline text) 256 1

-- Whole texts: two texts whose lines have the same words, one by one, stand for the same list, or are wrong at the same line for the same reason.
words : List ℕ → List ℕ
words l = tidy (statement l)

same_lines : (a b : List (List ℕ)) → map words a ≡ map words b → (room k : ℕ) → of_lines room k a ≡ of_lines room k b
unfolding of_lines words
same_lines [] [] e room k = refl
same_lines [] (y ∷ ys) e room k = cc
same_lines (x ∷ xs) [] e room k = cc
same_lines (x ∷ xs) (y ∷ ys) e room k =
    let first : words x ≡ words y = cc in
    let later : map words xs ≡ map words ys = cc in
    rw (blanks_free x y first) (next_same (line y) room k _ _ (λ left. same_lines xs ys later left (suc k)))

pub text_free : (a b : List ℕ) → read_of a ≡ read_of b → assembled a ≡ assembled b
unfolding assembled words
text_free a b e = same_lines (pieces newline a) (pieces newline b) e 256 1

-- A line with its number, and one line more. Assumes nothing.
use mathlib.Core.Path.{◌≡◌, refl, sym, ap, ◌∙◌}
use mathlib.Core.List.{List, ◌∷◌, ◌++◌, append_assoc, append-nil}
use Prim.Native.Nat.{ℕ, zero, suc, ◌+◌, ◌-◌, ◌*◌, ◌/◌, ◌%◌, ◌≤◌}
use native.Mathlib.Nat.{add-zero, add-suc, suc-add, not-suc-le-zero, le_of_suc-le-suc}
use native.Mathlib.Omega.{arith}
use borrow.Author.Tests.{eq-eqb, ne_eqb, leb-true}
use mathlib.Core.Bool.{Bool, true, false, cond}
use Rattle.calculator_rules.specs.Definition.{unless, list_refusal}
use lib.Dec.{eqb, leb}
use lib.ListN.{length, take, drop, replicate, length-append, length-replicate}
use lib.Seq.{drop-drop, take-append_seam}
use Rattle.program_digits.specs.Codes.{codes}
use Rattle.program_digits.specs.Digits.{decimal}
use Rattle.program_digits.specs.Put.{Wrote, Filled}
use Rattle.program_digits.proofs.Laws.{decimal_length}
use Rattle.program_digits.proofs.Puts.{then, said_as, filled}
use Rattle.program_answer.specs.Output.{output_alone, said_alone}
use Rattle.program_step.specs.Shown.{shown}
use Rattle.program_step.proofs.Written.{shown_length}
use Rattle.program_disassemble.specs.Written.{numbered, lines, disassembled, list_refused, told}

-- some of so many equal characters
take_same : (n m : ℕ) → n ≤ m → take {A = ℕ} n (replicate m 32) ≡ replicate n 32
take_same zero m h = refl
take_same (suc n) zero h = absurd (not-suc-le-zero h)
take_same (suc n) (suc m) h = ap (λ (r : List ℕ). 32 ∷ r) (take_same n m (le_of_suc-le-suc h))

numbered_length : (k : ℕ) (s : List ℕ) → length (numbered k s) ≤ 247
unfolding numbered codes
numbered_length k s = simp (length-append, length-replicate) (omega (arith, shown_length s, decimal_length k))

-- a line that is made in a room of 256 bytes
module _ {zeros l1 l2 l3 : List ℕ} {n gap m end : ℕ} (k : ℕ) (s : List ℕ) (z : length zeros ≡ 256) (w1 : Wrote zeros 0 (shown s) l1 n) (g : gap ≡ 64 - n)
    (w2 : Wrote l1 n (take gap (replicate 64 32)) l2 m) (w3 : Wrote l2 m (codes " # " ++ (decimal k ++ codes "\n")) l3 end) where
  shown_long : n ≡ length (shown s)
  shown_long = (filled (omega (arith, shown_length s)) z w1).count

  blanks : take {A = ℕ} gap (replicate 64 32) ≡ replicate (64 - length (shown s)) 32
  blanks = take_same gap 64 (omega arith) ∙ rw (g, shown_long)

  made : Wrote zeros 0 (numbered k s) l3 end
  unfolding numbered
  made = rw (← blanks) (then (then w1 w2) w3)

  there : Filled zeros (numbered k s) l3 end
  there = filled (omega (arith, numbered_length k s)) z made

  pub line_fits : end ≤ length l3
  line_fits = there.room

  pub line_put : {out left : List ℕ} {at r : ℕ} → Wrote out at (take end l3) left r → Wrote out at (numbered k s) left r
  line_put w = said_as (sym (rw (there.count, there.is) (take-append_seam (numbered k s) (drop (length (numbered k s)) zeros)))) w

-- one line more
pub lines_more : (k n : ℕ) (list : List ℕ) → lines k n list ++ numbered (k + n) (take 32 (drop (32 * n) list)) ≡ lines k (suc n) list
unfolding lines
lines_more k zero list = rw (add-zero k) (sym (append-nil (numbered k (take 32 list))))
lines_more k (suc n) list =
    append_assoc (numbered k (take 32 list)) (lines (suc k) n (drop 32 list)) _
    ∙ ap (λ (r : List ℕ). numbered k (take 32 list) ++ r)
    (rw (further, ← drop-drop (32 * n) 32 list, add-suc k n, ← suc-add k n) (lines_more (suc k) n (drop 32 list)))
  where
    further : 32 * suc n ≡ 32 + 32 * n
    further = omega arith

-- at most 256 lines
lines_length : (k n : ℕ) (list : List ℕ) → length (lines k n list) ≤ 247 * n
unfolding lines
lines_length k zero list = omega arith
lines_length k (suc n) list = simp length-append (omega (arith, numbered_length k (take 32 list), lines_length (suc k) n (drop 32 list)))

whole_list : (n : ℕ) → list_refusal n 0 256 ≡ 0 → n ≤ 8192
whole_list n e = by (eqb (n % 32) 0) (leb n 8192) (leb-true n 8192) e
  where
    by : (p q : Bool) → (q ≡ true → n ≤ 8192) → unless true 17 (unless (cond p q false) 1 (unless (leb 0 (n / 32)) 19 0)) ≡ 0 → n ≤ 8192
    by true true h f = h refl
    by true false h f = let z : ◌≡◌ {A = ℕ} 1 0 = f in omega arith
    by false q h f = let z : ◌≡◌ {A = ℕ} 1 0 = f in omega arith

pub text_length : (list : List ℕ) → list_refused list ≡ 0 → length (disassembled list) ≤ 65536
text_length list e = omega (arith, lines_length 1 (length list / 32) list, whole_list (length list) e)

pub said_length : (n : ℕ) → length (codes "refused " ++ (decimal n ++ codes "\n")) ≤ 32
unfolding codes
said_length n = simp length-append (omega (arith, decimal_length n))

-- what is told of a list
module _ (list : List ℕ) (refused : ℕ) (e : refused ≡ list_refused list) where
  pub told_refused : (refused ≡ 0 → ⊥) → told list ≡ said_alone (codes "refused " ++ (decimal refused ++ codes "\n"))
  unfolding told
  told_refused h = rw (← e, ne_eqb refused 0 h)

  pub told_text : refused ≡ 0 → told list ≡ output_alone (disassembled list)
  unfolding told
  told_text h = rw (← e, eq-eqb refused 0 h)

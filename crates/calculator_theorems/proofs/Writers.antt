-- The number beside a register (document 02, order 1: "the number of the step that last wrote it in this run, 1 to 256, or 0 if none"), of every register
-- after every run from the list's start that is not refused, under any limit: it is at most the count of steps done, so at most 256; number k above 0 means
-- that step k wrote the register and that no step done after it did; 0 that no step done did. Of the definition's runs. Assumes nothing.
use mathlib.Core.Path.{◌≡◌, refl, ◌∙◌, ap, sym, subst}
use mathlib.Core.Bool.{Bool, true, false, cond, ◌&&◌}
use mathlib.Core.Logic.{◌⊎◌, inl, inr, ⊎_elim}
use mathlib.Core.List.{List}
use Prim.Native.Nat.{ℕ, zero, suc, ◌+◌, ◌-◌, ◌*◌, ◌/◌, ◌<◌, ◌≤◌}
use native.Mathlib.Nat.{not-suc-le-zero}
use native.Mathlib.Omega.{arith}
use lib.Dec.{leb, eqb}
use lib.ListN.{length, get_or, set, take, drop, replicate, length-set}
use lib.Seq.{get_or-set_same, get_or-set_other, drop-drop}
use borrow.Author.Tests.{leb-true, eqb-true, eqb-false, eq-eqb}
use Rattle.standard.specs.Refusal.{Answer, given, refused}
use Rattle.standard.specs.Instruction.{Instruction, none, memory, const, shuffled, vector₁, vector₂, vector₃, shifted, tested, splatted, extracted, replaced}
use Rattle.standard.specs.Instruction.{instruction}
use Rattle.calculator_rules.specs.Definition.{Machine, Ending, operation, destination, profile, refusal, effect, step, after, counting, nothing_done}
use Rattle.calculator_rules.specs.Definition.{stopped, steps, list_refusal, taken_up, run}
use Rattle.calculator_rules.proofs.Judged.{one}
use Rattle.calculator_rules.proofs.Pauses.{never_above}

-- Step k of a list, counted from 1; and whether a step, where it is done, writes register r: its result is a vector and r its destination.
abbrev pub step_at : List ℕ → ℕ → List ℕ
step_at list k = take 32 (drop (32 * (k - 1)) list)

abbrev pub writes : ℕ → List ℕ → Bool
writes r s = (profile (instruction (operation s))).gives_vector && eqb (destination s) r

-- n is the last of the first `done` steps that wrote register r, or 0 where none did.
pub record Last (list : List ℕ) (done r n : ℕ) : Type 0 where
  pub among : n ≤ done
  pub wrote : 0 < n → writes r (step_at list n) ≡ true
  pub none_later : (k : ℕ) → n < k → k ≤ done → writes r (step_at list k) ≡ false

-- ---- one step

numbers : (i : Instruction) (place : ℕ) (m : Machine) (s : List ℕ)
    → (effect i place m s).writers ≡ cond (profile i).gives_vector (set m.writers (destination s) (suc place)) m.writers
unfolding effect
numbers none place m s = refl
numbers memory place m s = refl
numbers const place m s = refl
numbers shuffled place m s = refl
numbers (vector₁ f) place m s = refl
numbers (vector₂ f) place m s = refl
numbers (vector₃ f) place m s = refl
numbers (shifted f) place m s = refl
numbers (tested f) place m s = refl
numbers (splatted k f) place m s = refl
numbers (extracted k w f) place m s = refl
numbers (replaced k w f) place m s = refl

-- what a step that is done leaves beside register r, and that there are as many numbers as before
record Numbered (r place : ℕ) (s ws vs : List ℕ) : Type 0 where
  long : length vs ≡ length ws
  here : get_or vs r 0 ≡ cond (writes r s) (suc place) (get_or ws r 0)

put : (r place : ℕ) (s ws : List ℕ) → r < length ws → (v : Bool) (vs : List ℕ) → (profile (instruction (operation s))).gives_vector ≡ v
    → vs ≡ cond v (set ws (destination s) (suc place)) ws → Numbered r place s ws vs
put r place s ws h false vs p e = record { long = ap length e; here = ap (λ (l : List ℕ). get_or l r 0) e ∙ rw p }
put r place s ws h true vs p e =
    record {
      long = ap length e ∙ length-set ws (destination s) (suc place);
      here = ap (λ (l : List ℕ). get_or l r 0) e ∙ rw p (by (eqb (destination s) r) refl);
    }
  where
    by : (t : Bool) → eqb (destination s) r ≡ t → get_or (set ws (destination s) (suc place)) r 0 ≡ cond t (suc place) (get_or ws r 0)
    by true q = let d = eqb-true (destination s) r q in rw d (get_or-set_same ws r (suc place) 0 h)
    by false q = get_or-set_other ws (destination s) r (suc place) 0 (λ e. eqb-false (destination s) r q (sym e))

numbered : (r place : ℕ) (m next : Machine) (s : List ℕ) → r < length m.writers → step place m s ≡ given next
    → Numbered r place s m.writers next.writers
unfolding step
numbered r place m next s h e = by (eqb (refusal (profile (instruction (operation s))) m.kind s) 0) e
  where
    by : (t : Bool)
        → cond t (given (effect (instruction (operation s)) place m s)) (refused (refusal (profile (instruction (operation s))) m.kind s)) ≡ given next
        → Numbered r place s m.writers next.writers
    by true g =
        let q : effect (instruction (operation s)) place m s ≡ next = cc in
        put r place s m.writers h (profile (instruction (operation s))).gives_vector next.writers refl
        (ap (λ (k : Machine). k.writers) (sym q) ∙ numbers (instruction (operation s)) place m s)
    by false g = absurd (let z : ◌≡◌ {A = ℕ} 0 1 = cc in omega arith)

-- ---- steps one after the other, from a place on: the number after so many of them, from the one before

abbrev number_after : ℕ → ℕ → ℕ → List ℕ → ℕ → ℕ
number_after r zero place part n = n
number_after r (suc done) place part n = number_after r done (suc place) (drop 32 part) (cond (writes r (take 32 part)) (suc place) n)

abbrev ending : ℕ → ℕ → ℕ → List ℕ → Machine → Answer Machine → Ending
ending left limit place part m x = after x (λ next. counting 1 (steps left limit (suc place) (drop 32 part) next)) (λ n. nothing_done m (stopped n))

runs_to : (r left limit place : ℕ) (part : List ℕ) (m : Machine) → r < length m.writers
    → get_or (steps left limit place part m).machine.writers r 0 ≡ number_after r (steps left limit place part m).done place part (get_or m.writers r 0)
unfolding steps
runs_to r zero limit place part m h = refl
runs_to r (suc left) zero place part m h = refl
runs_to r (suc left) (suc limit) place part m h = by (step place m (take 32 part)) refl (λ next. runs_to r left limit (suc place) (drop 32 part) next)
  where
    by : (x : Answer Machine) → step place m (take 32 part) ≡ x
        → ((next : Machine) → r < length next.writers → get_or (steps left limit (suc place) (drop 32 part) next).machine.writers r 0
        ≡ number_after r (steps left limit (suc place) (drop 32 part) next).done (suc place) (drop 32 part) (get_or next.writers r 0))
        → get_or (ending left limit place part m x).machine.writers r 0
        ≡ number_after r (ending left limit place part m x).done place part (get_or m.writers r 0)
    by (refused n) e go = refl
    by (given next) e go =
        let one = numbered r place m next (take 32 part) h e in
        let d = (steps left limit (suc place) (drop 32 part) next).done in
        let more : 1 + d ≡ suc d = omega arith in
        rw more (go next (subst (λ (l : ℕ). r < l) (sym one.long) h) ∙ ap (number_after r d (suc place) (drop 32 part)) one.here)

-- so many steps of the rest of a list: none wrote r and the number is the one before, or one of them did and none after it
abbrev part_at : List ℕ → ℕ → List ℕ
part_at part i = take 32 (drop (32 * i) part)

record Kept (r done : ℕ) (part : List ℕ) (n v : ℕ) : Type 0 where
  same : v ≡ n
  none : (i : ℕ) → i < done → writes r (part_at part i) ≡ false

record Set (r done place : ℕ) (part : List ℕ) (v : ℕ) : Type 0 where
  i : ℕ
  before : i < done
  number : v ≡ suc (place + i)
  does : writes r (part_at part i) ≡ true
  none_after : (j : ℕ) → i < j → j < done → writes r (part_at part j) ≡ false

next_part : (part : List ℕ) (i : ℕ) → part_at (drop 32 part) i ≡ part_at part (suc i)
next_part part i = ap (take 32) (drop-drop (32 * i) 32 part ∙ ap (λ (k : ℕ). drop k part) (let e : 32 + 32 * i ≡ 32 * suc i = omega arith in e))

module _ (r place done : ℕ) (part : List ℕ) where
  first : (f : Bool) → writes r (take 32 part) ≡ f → (v n : ℕ) → Kept r done (drop 32 part) (cond f (suc place) n) v
      → Kept r (suc done) part n v ⊎ Set r (suc done) place part v
  first false e v n k = inl (record { same = k.same; none = none })
    where
      none : (i : ℕ) → i < suc done → writes r (part_at part i) ≡ false
      none zero h = e
      none (suc i) h = ap (writes r) (sym (next_part part i)) ∙ k.none i (omega arith)
  first true e v n k = inr (record {
    i = 0;
    before = omega arith;
    number = k.same
        ∙ (let z : suc place ≡ suc (place + 0) = omega arith in z);
    does = e;
    none_after = later;
  })
    where
      later : (j : ℕ) → 0 < j → j < suc done → writes r (part_at part j) ≡ false
      later zero l h = absurd (omega arith)
      later (suc j) l h = ap (writes r) (sym (next_part part j)) ∙ k.none j (omega arith)

  further : (v : ℕ) → Set r done (suc place) (drop 32 part) v → Set r (suc done) place part v
  further v s =
      record {
        i = suc s.i;
        before = (let h = s.before in omega arith);
        number = s.number ∙ (let z : suc (suc place + s.i) ≡ suc (place + suc s.i) = omega arith in z);
        does = ap (writes r) (sym (next_part part s.i)) ∙ s.does;
        none_after = later;
      }
    where
      later : (j : ℕ) → suc s.i < j → j < suc done → writes r (part_at part j) ≡ false
      later zero l h = absurd (omega arith)
      later (suc j) l h = ap (writes r) (sym (next_part part j)) ∙ s.none_after j (omega arith) (omega arith)

kept_or_set : (r done place : ℕ) (part : List ℕ) (n : ℕ)
    → Kept r done part n (number_after r done place part n) ⊎ Set r done place part (number_after r done place part n)
kept_or_set r zero place part n = inl (record { same = refl; none = λ i h. absurd (not-suc-le-zero h) })
kept_or_set r (suc done) place part n =
    ⊎_elim (first r place done part (writes r (take 32 part)) refl _ n) (λ s. inr (further r place done part _ s))
    (kept_or_set r done (suc place) (drop 32 part) (cond (writes r (take 32 part)) (suc place) n))

-- ---- a run from the list's start

no_number : (k r : ℕ) → ◌≡◌ {A = ℕ} (get_or (replicate k 0) r 0) 0
no_number zero r = refl
no_number (suc k) zero = refl
no_number (suc k) (suc r) = no_number k r

from_start : (list : List ℕ) (r done n v : ℕ) → n ≡ 0 → Kept r done list n v ⊎ Set r done 0 list v → Last list done r v
from_start list r done n v z (inl k) =
    record {
      among = (let e = k.same in omega arith);
      wrote = λ h. absurd (let e = k.same in omega arith);
      none_later = λ j l h. (let e : j ≡ suc (j - 1) = omega arith in k.none (j - 1) (omega arith));
    }
from_start list r done n v z (inr s) =
    record {
      among = (let e = s.number in let h = s.before in omega arith);
      wrote = λ h. (let e : v - 1 ≡ s.i = (let f = s.number in omega arith) in ap (λ (i : ℕ). writes r (part_at list i)) e ∙ s.does);
      none_later = λ j l h. (let f = s.number in s.none_after (j - 1) (omega arith) (omega arith));
    }

module _ (list : List ℕ) (limit : ℕ) (m : Machine) (accepted : list_refusal (length list) 0 limit ≡ 0) (r : ℕ) (h : r < 16) where
  pub last_writer : Last list (run list 0 limit m).done r (get_or (run list 0 limit m).machine.writers r 0)
  unfolding run
  last_writer =
      let done = (steps (length list / 32 - 0) limit 0 list (taken_up 0 m)).done in
      rw (eq-eqb (list_refusal (length list) 0 limit) 0 accepted)
      (subst (Last list done r) (sym (runs_to r (length list / 32 - 0) limit 0 list (taken_up 0 m) h))
      (from_start list r done (get_or (replicate 16 0) r 0) _ (no_number 16 r) (kept_or_set r done 0 list (get_or (replicate 16 0) r 0))))

  pub at_most_256 : get_or (run list 0 limit m).machine.writers r 0 ≤ 256
  at_most_256 =
      let l = leb-true limit 256 (one (leb limit 256) 16 _ accepted).0 in
      omega (arith, last_writer.among, never_above list 0 limit m)

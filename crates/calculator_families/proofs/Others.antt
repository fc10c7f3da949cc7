-- A match on an instruction's number, over n numbers from lo on, with an arm for each number of a family, in their order: past its arms the number is of
-- no instruction of the family. Assumes nothing.
use mathlib.Core.Path.{◌≡◌, refl, ap, ◌∙◌}
use mathlib.Core.Bool.{Bool, true, false}
use mathlib.Core.Logic.{⊎_elim}
use mathlib.Core.Option as option
use Prim.Native.Nat.{ℕ, zero, suc, ◌+◌, ◌-◌, ◌≤◌, ◌<◌}
use native.Mathlib.Nat.{eq-or-lt_of_le}
use native.Mathlib.Omega.{arith}
use lib.Dec.{ltb}
use lib.ListN.{get_or-eq_default}
use borrow.Author.Tests.{ltb-true, ltb-false}
use Rattle.standard.specs.Instruction.{Instruction, none, table, instruction}

abbrev pub Past : {F : Type 0} → option.Option F → Type 0 → Type 0 → Type 0
Past option.none E T = T
Past (option.some f) E T = T × (E → ⊥)

earlier : {F : Type 0} (o : option.Option F) (E T : Type 0) → Past o E T → T
earlier option.none E T p = p
earlier (option.some f) E T p = p.0

not_here : {F : Type 0} (o : option.Option F) (E T : Type 0) → Past o E T → E → o ≡ option.none
not_here option.none E T p e = refl
not_here (option.some f) E T p e = absurd (p.1 e)

module _ {F : Type 0} (of : Instruction → option.Option F) where
  -- op is none of the family's numbers, as a match says it past its arms
  abbrev pub NoneOf : ℕ → ℕ → ℕ → Type 0
  NoneOf op lo zero = Unit {0}
  NoneOf op lo (suc n) = Past (of (instruction (lo + n))) (op ≡ lo + n) (NoneOf op lo n)

  pub between : (lo n : ℕ) {op : ℕ} → NoneOf op lo n → (lo ≤ op) × (op < lo + n) → of (instruction op) ≡ option.none
  between lo zero p r = absurd (omega arith)
  between lo (suc n) {op} p r =
      let h : op ≤ lo + n = omega arith in
      ⊎_elim
      (λ (e : op ≡ lo + n). rw e (not_here (of (instruction (lo + n))) _ _ p e))
      (λ (k : op < lo + n). between lo n (earlier (of (instruction (lo + n))) _ _ p) (r.0, k))
      (eq-or-lt_of_le h)

  pub below : (n : ℕ) {op : ℕ} → NoneOf op 0 n → op < n → of (instruction op) ≡ option.none
  below n p u = between 0 n p (omega arith, omega arith)

  -- the table's end: what lies past it is no instruction
  past_the_end : {op : ℕ} → 276 ≤ op → instruction op ≡ none
  unfolding instruction table
  past_the_end h = get_or-eq_default table none h

  pub from : (lo : ℕ) {op : ℕ} → of none ≡ option.none → NoneOf op lo (276 - lo) → lo ≤ op → of (instruction op) ≡ option.none
  from lo {op} e p l = by_test (ltb op 276) refl where
    by_test : (b : Bool) → ltb op 276 ≡ b → of (instruction op) ≡ option.none
    by_test true t = between lo (276 - lo) p (l, omega (arith, ltb-true op 276 t))
    by_test false t = ap of (past_the_end (ltb-false op 276 t)) ∙ e

  pub any : (op : ℕ) → of none ≡ option.none → NoneOf op 0 276 → of (instruction op) ≡ option.none
  any op e p = from 0 e p (omega arith)

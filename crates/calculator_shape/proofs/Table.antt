-- The shapes of the table's instructions, a run of numbers at a time. Assumes nothing.
use mathlib.Core.Path.{◌≡◌, refl, ap, sym, ◌∙◌}
use mathlib.Core.Bool.{Bool, true, false, cond}
use mathlib.Core.List.{List, [], ◌∷◌, map}
use Prim.Native.Nat.{ℕ, zero, suc, ◌+◌, ◌-◌, ◌≤◌, ◌<◌}
use native.Mathlib.Nat.{add-zero}
use native.Mathlib.Omega.{arith}
use lib.ListN.{get_or, take, drop, replicate, get_or-replicate, get_or-map}
use lib.Dec.{T}
use mir.Val.{has_key}
use types.Run.{OneOf, hit}
use lib.Seq.{get_or-take, get_or-drop}
use Rattle.standard.specs.Instruction.{none, table, instruction}
use Rattle.calculator_rules.specs.Shape.{shape}
use Rattle.calculator_rules.specs.declared.shape.Shape.{Shape}

unfoldable pub shapes : List Shape
unfolding table
shapes = map shape table

shape_at : (op : ℕ) → get_or shapes op Shape.None ≡ shape (instruction op)
unfolding shapes instruction
shape_at op = get_or-map shape table op none

alike : (x : Shape) (n k : ℕ) → get_or (replicate n x) k x ≡ x
alike x zero k = refl
alike x (suc n) zero = refl
alike x (suc n) (suc k) = alike x n k

-- past the arms of a match that have single numbers, as the match says it: the number is none of theirs
abbrev pub Past : List (List ℕ) → ℕ → Type 0
Past [] op = Unit {0}
Past (ks ∷ kss) op = Past kss op × (OneOf ks op → ⊥)

-- the shapes from lo on, with x for each single number
abbrev pub passed : List (List ℕ) → ℕ → Shape → Shape → Shape
passed [] k x y = y
passed (ks ∷ kss) k x y = cond (has_key ks k) x (passed kss k x y)

abbrev pub rest_of : List (List ℕ) → Shape → ℕ → List Shape → List Shape
rest_of kss x lo [] = []
rest_of kss x lo (y ∷ ys) = passed kss lo x y ∷ rest_of kss x (suc lo) ys

not_passed : (kss : List (List ℕ)) (k : ℕ) (x y : Shape) → Past kss k → passed kss k x y ≡ y
not_passed [] k x y p = refl
not_passed (ks ∷ kss) k x y p = other (has_key ks k) (λ h. p.1 (hit ks k h)) (not_passed kss k x y p.0) where
  other : (b : Bool) {z : Shape} → (T b → ⊥) → z ≡ y → cond b x z ≡ y
  other true n e = absurd (n tt)
  other false n e = e

rest_at : (kss : List (List ℕ)) (x : Shape) (lo k : ℕ) (ys : List Shape) {op : ℕ} → lo + k ≡ op → Past kss op → get_or (rest_of kss x lo ys) k Shape.None
    ≡ get_or ys k Shape.None
rest_at kss x lo k [] e p = refl
rest_at kss x lo zero (y ∷ ys) e p =
    let q : lo ≡ _ = sym (add-zero lo) ∙ e in
    not_passed kss lo x y (rw q p)
rest_at kss x lo (suc k) (y ∷ ys) {op} e p = rest_at kss x (suc lo) k ys (omega arith) p

-- n numbers of one shape, from lo on, but for the single numbers
pub inside : (kss : List (List ℕ)) (x : Shape) (lo n : ℕ) {op : ℕ} → rest_of kss x lo (take n (drop lo shapes)) ≡ replicate n x → Past kss op → lo ≤ op
    → op < lo + n → x ≡ shape (instruction op)
inside kss x lo n {op} e p l u =
    let k : op - lo < n = omega arith in
    let q : lo + (op - lo) ≡ op = omega arith in
    sym (get_or-replicate n (op - lo) x Shape.None k) ∙ ap (λ (xs : List Shape). get_or xs (op - lo) Shape.None) (sym e)
    ∙ rest_at kss x lo (op - lo) (take n (drop lo shapes)) q p ∙ rw (get_or-take, get_or-drop, q) (shape_at op)

-- from lo to the table's end, and past it, but for the single numbers
pub onward : (kss : List (List ℕ)) (lo n : ℕ) {op : ℕ} → rest_of kss Shape.None lo (drop lo shapes) ≡ replicate n Shape.None → Past kss op → lo ≤ op
    → Shape.None ≡ shape (instruction op)
onward kss lo n {op} e p l =
    let q : lo + (op - lo) ≡ op = omega arith in
    sym (alike Shape.None n (op - lo)) ∙ ap (λ (xs : List Shape). get_or xs (op - lo) Shape.None) (sym e)
    ∙ rest_at kss Shape.None lo (op - lo) (drop lo shapes) q p ∙ rw (get_or-drop, q) (shape_at op)

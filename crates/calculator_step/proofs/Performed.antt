-- What the judge passes, done: of a step that is not refused its shape's part of the code leaves what the definition says. Assumes nothing.
use mathlib.Core.Path.{◌≡◌, refl, ap, sym, ◌∙◌}
use mathlib.Core.Bool.{Bool, true, false, cond}
use mathlib.Core.List.{List, [], ◌∷◌}
use Prim.Native.Nat.{ℕ, ◌%◌, ◌≤◌}
use native.Mathlib.Omega.{arith}
use lib.Dec.{ltb, leb, eqb}
use borrow.Author.Tests.{leb-true, ne_eqb}
use Rattle.standard.specs.Instruction.{Kind, Instruction, none, memory, const, shuffled, vector₁, vector₂, vector₃, shifted, tested, splatted, extracted}
use Rattle.standard.specs.Instruction.{replaced, instruction}
use Rattle.standard.specs.Refusal.{legal, given, refused}
use Rattle.calculator_rules.specs.Definition.{Machine, Profile, profile, all_registers, used, lane, indices, right_kind, refusal, effect, operation, step}
use Rattle.calculator_rules.specs.Shape.{shape, profile_of}
use Rattle.calculator_rules.specs.declared.shape.Shape.{Shape}
use Rattle.calculator_rules.proofs.Judged.{one}
use Rattle.calculator_rules.proofs.Shapes.{profile_kept}
use Rattle.calculator_scalar.specs.Scalar.{scalar_of}
use Rattle.calculator_scalar.specs.declared.Scalar.{Scalar}
use Rattle.calculator_state.specs.State.{vectors, held}
use Rattle.calculator_step.specs.Done.{writes, sets, does}

record Passed (p : Profile) (k : Kind) (s : List ℕ) : Type 0 where
  registers : all_registers (used p s) ≡ true
  lanes : ltb (lane s) p.lane_count ≡ true
  legal_indices : cond p.shuffles (legal (indices s)) true ≡ true
  kind : right_kind p.reads k ≡ true

passed : (p : Profile) (k : Kind) (s : List ℕ) → refusal p k s ≡ 0 → Passed p k s
unfolding refusal
passed p k s h =
    let a = one p.has_step 1 _ h in
    let b = one (all_registers (used p s)) 2 _ a.1 in
    let c = one (ltb (lane s) p.lane_count) 3 _ b.1 in
    let d = one (cond p.shuffles (legal (indices s)) true) 4 _ c.1 in
    let e = one (right_kind p.reads k) 5 _ d.1 in
    record { registers = b.0; lanes = c.0; legal_indices = d.0; kind = e.0 }

both : (a b : Bool) → cond a b false ≡ true → (a ≡ true) × (b ≡ true)
both true b h = (refl, h)
both false b h = absurd (let z : ◌≡◌ {A = ℕ} 0 1 = cc in omega arith)

low_bits : (x : ℕ) → x ≤ 15 → x % 16 ≡ x
low_bits x h = omega arith

-- register numbers that have passed
abbrev Low : List ℕ → Type 0
Low [] = Unit {0}
Low (x ∷ xs) = (x % 16 ≡ x) × Low xs

low : (xs : List ℕ) → all_registers xs ≡ true → Low xs
low [] h = tt
low (x ∷ xs) h =
    let b = both (leb x 15) (all_registers xs) h in
    (low_bits x (leb-true x 15 b.0), low xs b.1)

leaves : (i : Instruction) (place : ℕ) (m : Machine) (s : List ℕ) → Passed (profile i) m.kind s → does (shape i) i place m s ≡ effect i place m s
unfolding effect
leaves none place m s p = refl
leaves memory place m s p = refl
leaves const place m s p =
    let r = low (used (profile const) s) p.registers in
    rw r.0
leaves shuffled place m s p =
    let r = low (used (profile shuffled) s) p.registers in
    rw (p.legal_indices, r.0, r.1.0, r.1.1.0)
leaves (vector₁ f) place m s p =
    let r = low (used (profile (vector₁ f)) s) p.registers in
    rw (r.0, r.1.0)
leaves (vector₂ f) place m s p =
    let r = low (used (profile (vector₂ f)) s) p.registers in
    rw (r.0, r.1.0, r.1.1.0)
leaves (vector₃ f) place m s p =
    let r = low (used (profile (vector₃ f)) s) p.registers in
    rw (r.0, r.1.0, r.1.1.0, r.1.1.1.0)
leaves (shifted f) place m s p =
    let r = low (used (profile (shifted f)) s) p.registers in
    rw (p.kind, r.0, r.1.0)
leaves (tested f) place m s p =
    let r = low (used (profile (tested f)) s) p.registers in
    rw r.0
leaves (splatted k f) place m s p =
    let r = low (used (profile (splatted k f)) s) p.registers in
    rw (p.kind, r.0)
leaves (extracted k w f) place m s p =
    let r = low (used (profile (extracted k w f)) s) p.registers in
    rw (p.lanes, r.0)
leaves (replaced k w f) place m s p =
    let r = low (used (profile (replaced k w f)) s) p.registers in
    rw (p.kind, p.lanes, r.0, r.1.0)

pub done : (i : Instruction) (place : ℕ) (m : Machine) (s : List ℕ) → refusal (profile i) m.kind s ≡ 0 → does (shape i) i place m s ≡ effect i place m s
done i place m s h = leaves i place m s (passed (profile i) m.kind s h)

-- the scalar alone, and a vector in the destination
pub another_scalar : (w n : List ℕ) (r : Scalar) {x : Kind × ℕ} → scalar_of r ≡ x → held w n r
    ≡ record { registers = vectors w; writers = n; kind = x.0; bits = x.1 }
another_scalar w n r e = ap (λ (x : Kind × ℕ). record { registers = vectors w; writers = n; kind = x.0; bits = x.1 }) e

pub another_register : {ws vs : List ℕ} (ns : List ℕ) (r : Scalar) → ws ≡ vs
    → ◌≡◌ {A = Machine} (record { registers = ws; writers = ns; kind = (scalar_of r).0; bits = (scalar_of r).1 })
    (record { registers = vs; writers = ns; kind = (scalar_of r).0; bits = (scalar_of r).1 })
another_register ns r e = rw e

-- the shapes whose vector is written, as a match's last arm says it: none of those that the arms before it took
pub stored : (x : Shape) (i : Instruction) (m : Machine) (s : List ℕ) → (x ≡ Shape.None → ⊥) → (x ≡ Shape.Test → ⊥) → ((n : ℕ) → x ≡ Shape.Extract n → ⊥)
    → sets x i m s ≡ writes x i m s
stored Shape.None i m s a b e = absurd (a refl)
stored Shape.Constant i m s a b e = refl
stored Shape.Shuffle i m s a b e = refl
stored Shape.Unary i m s a b e = refl
stored Shape.Binary i m s a b e = refl
stored Shape.Ternary i m s a b e = refl
stored Shape.Shift i m s a b e = refl
stored Shape.Test i m s a b e = absurd (b refl)
stored (Shape.Splat k) i m s a b e = refl
stored (Shape.Extract n) i m s a b e = absurd (e n refl)
stored (Shape.Replace n k) i m s a b e = refl

pub gives : (x : Shape) → (x ≡ Shape.None → ⊥) → (x ≡ Shape.Test → ⊥) → ((n : ℕ) → x ≡ Shape.Extract n → ⊥) → (profile_of x).gives_vector ≡ true
gives Shape.None a b e = absurd (a refl)
gives Shape.Constant a b e = refl
gives Shape.Shuffle a b e = refl
gives Shape.Unary a b e = refl
gives Shape.Binary a b e = refl
gives Shape.Ternary a b e = refl
gives Shape.Shift a b e = refl
gives Shape.Test a b e = absurd (b refl)
gives (Shape.Splat k) a b e = refl
gives (Shape.Extract n) a b e = absurd (e n refl)
gives (Shape.Replace n k) a b e = refl

-- a step whose operation's shape is x, where the judge says r
module _ (place : ℕ) (m : Machine) (s : List ℕ) (op r : ℕ) (x : Shape) (o : op ≡ operation s) (d : x ≡ shape (instruction op))
    (j : r ≡ refusal (profile_of x) m.kind s) where
  judged : refusal (profile (instruction op)) m.kind s ≡ r
  judged = sym (j ∙ rw (d, profile_kept))

  pub passes : (next : Machine) → r ≡ 0 → next ≡ does x (instruction op) place m s → given next ≡ step place m s
  unfolding step
  passes next z e =
      let f : next ≡ effect (instruction op) place m s = e ∙ rw d (done (instruction op) place m s (judged ∙ z)) in
      rw (← o, judged, z, f)

  pub stops : (r ≡ 0 → ⊥) → refused r ≡ step place m s
  unfolding step
  stops n = rw (← o, judged, ne_eqb r 0 n)

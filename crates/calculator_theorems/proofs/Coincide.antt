-- Any two endings that a run's promise allows coincide: in the registers, their writers, the scalar's kind and bits, the count and how it stopped. Assumes
-- nothing.
use mathlib.Core.Path.{◌≡◌, refl, ap}
use mathlib.Core.List.{List, [], ◌∷◌, map}
use Prim.Native.Nat.{ℕ}
use native.Mathlib.Omega.{arith}
use Rattle.simd.specs.Number.{number}
use Rattle.simd.specs.declared.V128.{V128}
use Rattle.simd.proofs.Coincide.{Held, vectors_coincide}
use Rattle.calculator_scalar.specs.Scalar.{kind_of, bits_of}
use Rattle.calculator_rules.specs.Definition as definition
use Rattle.standard_refusal.specs.Number.{number_of}
use Rattle.standard_refusal.proofs.Numbers.{same_number}
use Rattle.calculator_limits.specs.Outcome.{outcome_of}
use Rattle.calculator.specs.Run.{ending_of}
use Rattle.calculator_limits.specs.declared.Outcome.{Outcome}
use Rattle.calculator.specs.declared.run.Ending.{Ending}

abbrev pub HeldAll : List V128 → Type 0
HeldAll [] = Unit {0}
HeldAll (v ∷ vs) = Held v × HeldAll vs

registers_coincide : (xs ys : List V128) → HeldAll xs → HeldAll ys → map number xs ≡ map number ys → xs ≡ ys
registers_coincide [] [] hx hy e = refl
registers_coincide [] (y ∷ ys) hx hy e = let z : ◌≡◌ {A = ℕ} 0 1 = cc in absurd (omega arith)
registers_coincide (x ∷ xs) [] hx hy e = let z : ◌≡◌ {A = ℕ} 0 1 = cc in absurd (omega arith)
registers_coincide (x ∷ xs) (y ∷ ys) hx hy e =
    let head = vectors_coincide x y hx.0 hy.0 (cc) in
    let tail = registers_coincide xs ys hx.1 hy.1 (cc) in
    rw (head, tail)

outcomes_coincide : (a b : Outcome) → outcome_of a ≡ outcome_of b → a ≡ b
outcomes_coincide Outcome.Ended Outcome.Ended e = refl
outcomes_coincide (Outcome.Paused p) (Outcome.Paused q) e = ap Outcome.Paused (let z : p ≡ q = cc in z)
outcomes_coincide (Outcome.Refused m) (Outcome.Refused n) e = ap Outcome.Refused (same_number m n (let z : number_of m ≡ number_of n = cc in z))
outcomes_coincide Outcome.Ended (Outcome.Paused q) e = let z : ◌≡◌ {A = ℕ} 0 1 = cc in absurd (omega arith)
outcomes_coincide Outcome.Ended (Outcome.Refused n) e = let z : ◌≡◌ {A = ℕ} 0 1 = cc in absurd (omega arith)
outcomes_coincide (Outcome.Paused p) Outcome.Ended e = let z : ◌≡◌ {A = ℕ} 0 1 = cc in absurd (omega arith)
outcomes_coincide (Outcome.Paused p) (Outcome.Refused n) e = let z : ◌≡◌ {A = ℕ} 0 1 = cc in absurd (omega arith)
outcomes_coincide (Outcome.Refused m) Outcome.Ended e = let z : ◌≡◌ {A = ℕ} 0 1 = cc in absurd (omega arith)
outcomes_coincide (Outcome.Refused m) (Outcome.Paused q) e = let z : ◌≡◌ {A = ℕ} 0 1 = cc in absurd (omega arith)

pub record Alike (r q : Ending) : Type 0 where
  pub registers : r.state.registers ≡ q.state.registers
  pub writers : r.state.writers ≡ q.state.writers
  pub kind : kind_of r.state.scalar ≡ kind_of q.state.scalar
  pub bits : bits_of r.state.scalar ≡ bits_of q.state.scalar
  pub done : r.done ≡ q.done
  pub outcome : r.outcome ≡ q.outcome

pub endings_coincide : (r q : Ending) → HeldAll r.state.registers → HeldAll q.state.registers → ending_of r ≡ ending_of q → Alike r q
endings_coincide r q hr hq e =
    record {
      registers =
          registers_coincide r.state.registers q.state.registers hr hq (ap (λ (x : definition.Ending). x.machine.registers) e);
      writers = ap (λ (x : definition.Ending). x.machine.writers) e;
      kind = ap (λ (x : definition.Ending). x.machine.kind) e;
      bits = ap (λ (x : definition.Ending). x.machine.bits) e;
      done = ap (λ (x : definition.Ending). x.done) e;
      outcome = outcomes_coincide r.outcome q.outcome (ap (λ (x : definition.Ending). x.outcome) e);
    }

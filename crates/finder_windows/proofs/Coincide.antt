-- Any two answers that the promise allows are one: an answer is a position with its distances or a refusal, and never both. Assumes nothing.
use mathlib.Core.Path.{◌≡◌, ap}
use Prim.Native.Nat.{ℕ}
use native.Mathlib.Omega.{arith}
use Rattle.std.specs.Prelude.{Option, Some, None, Result, Ok, Err}
use Rattle.standard_refusal.specs.declared.Refusal.{Refusal}
use Rattle.standard_refusal.proofs.Numbers.{same_number}
use Rattle.finder_windows.specs.declared.Found.{Found}
use Rattle.finder_windows.specs.Answer.{answer_of, met_or_none}

same_found : (f g : Found) → f.position ≡ g.position → f.first ≡ g.first → f.second ≡ g.second → f ≡ g
same_found f g p d e = λ i. record { position = p i; first = d i; second = e i }

pub answers_coincide : (a b : Result Found Refusal) → answer_of a ≡ answer_of b → a ≡ b
answers_coincide (Ok f) (Ok g) h = ap (λ (z : Found). Ok z) (same_found f g (cc) (cc) (cc))
answers_coincide (Err m) (Err n) h = ap (λ (z : Refusal). Err z) (same_number m n (cc))
answers_coincide (Ok f) (Err n) h = let z : ◌≡◌ {A = ℕ} 0 1 = cc in absurd (omega arith)
answers_coincide (Err n) (Ok f) h = let z : ◌≡◌ {A = ℕ} 0 1 = cc in absurd (omega arith)

pub meetings_coincide : (a b : Option Found) → met_or_none a ≡ met_or_none b → a ≡ b
meetings_coincide (Some f) (Some g) h = ap (λ (z : Found). Some z) (same_found f g (cc) (cc) (cc))
meetings_coincide None None h = cc
meetings_coincide (Some f) None h = let z : ◌≡◌ {A = ℕ} 0 1 = cc in absurd (omega arith)
meetings_coincide None (Some g) h = let z : ◌≡◌ {A = ℕ} 0 1 = cc in absurd (omega arith)

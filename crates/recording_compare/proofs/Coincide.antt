-- Any two answers that a promise allows coincide. Assumes nothing.
use mathlib.Core.Path.{◌≡◌, refl, ap}
use Prim.Native.Nat.{ℕ}
use native.Mathlib.Omega.{arith}
use Rattle.std.specs.Prelude.{Result, Ok, Err}
use Rattle.standard_refusal.specs.declared.Refusal.{Refusal}
use Rattle.standard_refusal.specs.Number.{number_of}
use Rattle.standard_refusal.proofs.Numbers.{same_number}
use Rattle.recording_compare.specs.Verdict.{verdict_of, answer_of}
use Rattle.recording_compare.specs.declared.Verdict.{Verdict}

pub verdicts_coincide : (a b : Verdict) → verdict_of a ≡ verdict_of b → a ≡ b
verdicts_coincide Verdict.Agrees Verdict.Agrees e = refl
verdicts_coincide (Verdict.Differs m) (Verdict.Differs n) e = ap Verdict.Differs (let z : m ≡ n = cc in z)
verdicts_coincide Verdict.Agrees (Verdict.Differs n) e = let z : ◌≡◌ {A = ℕ} 0 1 = cc in absurd (omega arith)
verdicts_coincide (Verdict.Differs m) Verdict.Agrees e = let z : ◌≡◌ {A = ℕ} 0 1 = cc in absurd (omega arith)

pub answers_coincide : (a b : Result Verdict Refusal) → answer_of a ≡ answer_of b → a ≡ b
answers_coincide (Ok v) (Ok w) e = ap Ok (verdicts_coincide v w e)
answers_coincide (Err r) (Err s) e = ap Err (same_number r s (let z : number_of r ≡ number_of s = cc in z))
answers_coincide (Ok Verdict.Agrees) (Err s) e = let z : ◌≡◌ {A = ℕ} 0 1 = cc in absurd (omega arith)
answers_coincide (Ok (Verdict.Differs m)) (Err s) e = let z : ◌≡◌ {A = ℕ} 0 1 = cc in absurd (omega arith)
answers_coincide (Err r) (Ok Verdict.Agrees) e = let z : ◌≡◌ {A = ℕ} 0 1 = cc in absurd (omega arith)
answers_coincide (Err r) (Ok (Verdict.Differs m)) e = let z : ◌≡◌ {A = ℕ} 0 1 = cc in absurd (omega arith)

-- Any two results that the promise of a load allows coincide. A vector's halves are below 2^64, as of every value of the code.
-- Assumes nothing.
use Rattle.std.proofs.Common.{◌≡◌, ℕ, sym, ap, arith}
use Rattle.std.specs.Prelude.{Result, Ok, Err}
use Rattle.standard.specs.Refusal.{Answer, given, refused}
use Rattle.standard.specs.Memory.{answered, past}
use Rattle.memory_access.specs.declared.AccessError.{AccessError}
use Rattle.memory_access.proofs.Coincide.{errors_coincide}
use Rattle.simd.specs.declared.V128.{V128}
use Rattle.simd.proofs.Coincide.{Held, vectors_coincide}
use Rattle.memory_loads.specs.LoadAnswer.{load_answer}

abbrev pub HeldLoad : Result V128 AccessError → Type 0
HeldLoad (Ok v) = Held v
HeldLoad (Err error) = Unit {0}

-- an answer is a vector, a refusal or a shortfall, and never two of them
same : {a b : ℕ} → answered (given a) ≡ answered (given b) → a ≡ b
same e = cc

vector_or_refused : {X : Type 0} {a n : ℕ} → answered (given a) ≡ answered (refused n) → X
vector_or_refused e = let z : ◌≡◌ {A = ℕ} 0 1 = cc in absurd (omega arith)

answered_or_past : {X : Type 0} {a : Answer ℕ} {n s : ℕ} → answered a ≡ past n s → X
answered_or_past e = let z : ◌≡◌ {A = ℕ} 0 1 = cc in absurd (omega arith)

pub load_answers_coincide : (a b : Result V128 AccessError) → HeldLoad a → HeldLoad b → load_answer a ≡ load_answer b → a ≡ b
load_answers_coincide (Ok a) (Ok b) ha hb e = ap (λ (v : V128). Ok v) (vectors_coincide a b ha hb (same e))
load_answers_coincide (Ok a) (Err (AccessError.Refused q)) ha hb e = vector_or_refused e
load_answers_coincide (Ok a) (Err (AccessError.Past t)) ha hb e = answered_or_past e
load_answers_coincide (Err (AccessError.Refused r)) (Ok b) ha hb e = vector_or_refused (sym e)
load_answers_coincide (Err (AccessError.Past s)) (Ok b) ha hb e = answered_or_past (sym e)
load_answers_coincide (Err a) (Err b) ha hb e = ap (λ (error : AccessError). Err error) (errors_coincide a b e)

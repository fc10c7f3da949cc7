-- Any two answers of the recorder that its promise allows coincide. Assumes nothing.
use mathlib.Core.Path.{◌≡◌, refl, ap}
use Prim.Native.Nat.{ℕ}
use native.Mathlib.Omega.{arith}
use Rattle.std.specs.Prelude.{Result, Ok, Err}
use Rattle.standard_refusal.specs.Number.{number_of}
use Rattle.standard_refusal.proofs.Numbers.{same_number}
use Rattle.recording_rules.specs.Recorded.{recorded_of}
use Rattle.recording_rules.specs.declared.RecordError.{RecordError}

errors_coincide : (a b : RecordError) → ◌≡◌ (recorded_of (Err a)) (recorded_of (Err b)) → a ≡ b
errors_coincide RecordError.Empty RecordError.Empty e = refl
errors_coincide RecordError.Empty RecordError.Short e = let z : ◌≡◌ {A = ℕ} 0 1 = cc in absurd (omega arith)
errors_coincide RecordError.Empty (RecordError.Refused s) e = let z : ◌≡◌ {A = ℕ} 0 1 = cc in absurd (omega arith)
errors_coincide RecordError.Short RecordError.Empty e = let z : ◌≡◌ {A = ℕ} 0 1 = cc in absurd (omega arith)
errors_coincide RecordError.Short RecordError.Short e = refl
errors_coincide RecordError.Short (RecordError.Refused s) e = let z : ◌≡◌ {A = ℕ} 0 1 = cc in absurd (omega arith)
errors_coincide (RecordError.Refused r) RecordError.Empty e = let z : ◌≡◌ {A = ℕ} 0 1 = cc in absurd (omega arith)
errors_coincide (RecordError.Refused r) RecordError.Short e = let z : ◌≡◌ {A = ℕ} 0 1 = cc in absurd (omega arith)
errors_coincide (RecordError.Refused r) (RecordError.Refused s) e = ap RecordError.Refused (same_number r s (let z : number_of r ≡ number_of s = cc in z))

pub recordings_coincide : (a b : Result ℕ RecordError) → recorded_of a ≡ recorded_of b → a ≡ b
recordings_coincide (Ok m) (Ok n) e = ap Ok (let z : m ≡ n = cc in z)
recordings_coincide (Err a) (Err b) e = ap Err (errors_coincide a b e)
recordings_coincide (Ok m) (Err RecordError.Empty) e = let z : ◌≡◌ {A = ℕ} 0 1 = cc in absurd (omega arith)
recordings_coincide (Ok m) (Err RecordError.Short) e = let z : ◌≡◌ {A = ℕ} 0 1 = cc in absurd (omega arith)
recordings_coincide (Ok m) (Err (RecordError.Refused s)) e = let z : ◌≡◌ {A = ℕ} 0 1 = cc in absurd (omega arith)
recordings_coincide (Err RecordError.Empty) (Ok n) e = let z : ◌≡◌ {A = ℕ} 0 1 = cc in absurd (omega arith)
recordings_coincide (Err RecordError.Short) (Ok n) e = let z : ◌≡◌ {A = ℕ} 0 1 = cc in absurd (omega arith)
recordings_coincide (Err (RecordError.Refused r)) (Ok n) e = let z : ◌≡◌ {A = ℕ} 0 1 = cc in absurd (omega arith)

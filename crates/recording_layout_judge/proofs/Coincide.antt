-- Any two answers that a promise allows coincide. Assumes nothing.
use mathlib.Core.Path.{◌≡◌, ap}
use Prim.Native.Nat.{ℕ}
use native.Mathlib.Omega.{arith}
use Rattle.std.specs.Prelude.{Result, Ok, Err}
use Rattle.standard_refusal.specs.declared.Refusal.{Refusal}
use Rattle.standard_refusal.specs.Number.{number_of}
use Rattle.standard_refusal.proofs.Numbers.{same_number}
use Rattle.recording_layout_judge.specs.Judged.{judged_of}

pub judgements_coincide : (a b : Result ℕ Refusal) → judged_of a ≡ judged_of b → a ≡ b
judgements_coincide (Ok m) (Ok n) e = ap Ok (let z : m ≡ n = cc in z)
judgements_coincide (Err r) (Err s) e = ap Err (same_number r s (let z : number_of r ≡ number_of s = cc in z))
judgements_coincide (Ok m) (Err s) e = let z : ◌≡◌ {A = ℕ} 0 1 = cc in absurd (omega arith)
judgements_coincide (Err r) (Ok n) e = let z : ◌≡◌ {A = ℕ} 0 1 = cc in absurd (omega arith)

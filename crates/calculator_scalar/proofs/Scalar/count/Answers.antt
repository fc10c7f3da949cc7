-- `calculator_scalar::Scalar::count` meets its contract: an i32's bits, and 0 for the other kinds. Assumes nothing.
use mathlib.Core.Path.{◌≡◌, refl}
use Prim.Native.Nat.{ℕ}
use lib.IntN.{ℤ}
use Rattle.calculator_scalar.specs.Scalar.{kind_of, bits_of}
use Rattle.calculator_scalar.specs.declared.Scalar.{Scalar}
use Rattle.calculator_scalar.specs.Count.{as_count}
use Rattle.calculator_scalar.proofs.Scalar.count.Goals as goal

other_kind : (s : Scalar) → ((z : ℤ) → s ≡ Scalar.I32 z → ⊥) → ◌≡◌ {A = ℕ} 0 (as_count (kind_of s) (bits_of s))
other_kind (Scalar.I32 z) h = absurd (h z refl)
other_kind (Scalar.I64 z) h = refl
other_kind (Scalar.F32 x) h = refl
other_kind (Scalar.F64 x) h = refl

pub returns-in_default : goal.returns-in_default
returns-in_default c = other_kind c.args.self c.in_default.not-I32

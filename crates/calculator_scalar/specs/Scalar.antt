-- The kind and the bits of the calculator's scalar.
use Rattle.std.specs.Prelude.{ℕ}
use Rattle.standard.specs.Integer.{modulo}
use Rattle.standard.specs.Instruction.{Kind, i32, i64, f32, f64}
use Rattle.lane_float.specs.Scalar.{f32_bits, f64_bits}
use Rattle.calculator_scalar.specs.declared.Scalar.{Scalar}

abbrev pub kind_of : Scalar → Kind
kind_of (Scalar.I32 z) = i32
kind_of (Scalar.I64 z) = i64
kind_of (Scalar.F32 x) = f32
kind_of (Scalar.F64 x) = f64

abbrev pub bits_of : Scalar → ℕ
bits_of (Scalar.I32 z) = modulo 32 z
bits_of (Scalar.I64 z) = modulo 64 z
bits_of (Scalar.F32 x) = f32_bits x
bits_of (Scalar.F64 x) = f64_bits x

abbrev pub scalar_of : Scalar → Kind × ℕ
scalar_of s = (kind_of s, bits_of s)

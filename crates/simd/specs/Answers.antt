-- What an answer of the code stands for: document 01's number where it is a refusal, else the value as its bits.
use Rattle.std.specs.Prelude.{ℕ, ℤ, Result}
use Rattle.standard.specs.Integer.{modulo}
use Rattle.standard.specs.Refusal.{Answer}
use Rattle.standard_refusal.specs.declared.Refusal.{Refusal}
use Rattle.standard_refusal.specs.Number.{answer_of}
use Rattle.lane_float.specs.Scalar.{f32_bits, f64_bits}
use Rattle.lane_float.specs.declared.F32.{F32}
use Rattle.lane_float.specs.declared.F64.{F64}
use Rattle.simd.specs.Number.{number}
use Rattle.simd.specs.declared.V128.{V128}

abbrev pub vector_answer : Result V128 Refusal → Answer ℕ
vector_answer result = answer_of number result

abbrev pub i32_answer : Result ℤ Refusal → Answer ℕ
i32_answer result = answer_of (modulo 32) result

abbrev pub u32_answer : Result ℕ Refusal → Answer ℕ
u32_answer result = answer_of (λ i. i) result

abbrev pub i64_answer : Result ℤ Refusal → Answer ℕ
i64_answer result = answer_of (modulo 64) result

abbrev pub f32_answer : Result F32 Refusal → Answer ℕ
f32_answer result = answer_of f32_bits result

abbrev pub f64_answer : Result F64 Refusal → Answer ℕ
f64_answer result = answer_of f64_bits result

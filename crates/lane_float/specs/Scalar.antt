-- The bits of a float scalar, for every value of its type: the number's pattern, or the NaN's bits as they stand. A `Number` that is a NaN has
-- the one pattern that lib.Ieee writes for a NaN, the positive quiet one.
use Rattle.std.specs.Prelude.{ℕ}
use Rattle.std.specs.Float.{binary32, binary64}
use Rattle.std.specs.Float.Ieee.{to_bits}
use Rattle.lane_float.specs.declared.F32.{F32}
use Rattle.lane_float.specs.declared.F64.{F64}

abbrev pub f32_bits : F32 → ℕ
f32_bits (F32.Number x) = to_bits binary32 x
f32_bits (F32.Nan bits) = bits

abbrev pub f64_bits : F64 → ℕ
f64_bits (F64.Number x) = to_bits binary64 x
f64_bits (F64.Nan bits) = bits

-- What the relaxed instructions give here, one value each, "as the Rust chooses" (document 02, order 11). What WebAssembly 3.0 allows them to give is said
-- apart, in the crate `lane_relaxed_theorems`.
use Rattle.std.specs.Prelude.{ℕ}
use Rattle.std.specs.Float.{Format}
use Rattle.standard.specs.Lanes.{binary}
use Rattle.standard.specs.Integer.{iadd, iq15mulrsat_s, ibitselect, extend_s}
use Rattle.standard.specs.Float.{width, fmin, fmax}
use Rattle.standard.specs.Vector.{extadd_pairwise, dot, swizzle}

-- "The plain operation": i8x16.swizzle, v128.bitselect for each width of laneselect, i16x8.q15mulr_sat_s, and min and max of floats.
abbrev pub relaxed_swizzle : ℕ → ℕ → ℕ
relaxed_swizzle = swizzle

abbrev pub relaxed_laneselect : ℕ → ℕ → ℕ → ℕ
relaxed_laneselect = ibitselect 128

abbrev pub relaxed_q15mulr : ℕ → ℕ → ℕ
relaxed_q15mulr = binary 16 (iq15mulrsat_s 16)

abbrev pub relaxed_min : Format → ℕ → ℕ → ℕ
relaxed_min f = binary (width f) (fmin f)

abbrev pub relaxed_max : Format → ℕ → ℕ → ℕ
relaxed_max f = binary (width f) (fmax f)

-- i16x8.relaxed_dot_i8x16_i7x16_s: "signed bytes with sums modulo 2^16, so four inputs of −128 give −32768".
abbrev pub relaxed_dot : ℕ → ℕ → ℕ
relaxed_dot = dot 8

-- i32x4.relaxed_dot_i8x16_i7x16_add_s: neighbouring lanes of that, added as signed numbers, and the lane of the third vector, modulo 2^32.
abbrev pub relaxed_dot_add : ℕ → ℕ → ℕ → ℕ
relaxed_dot_add x y c = binary 32 (iadd 32) (extadd_pairwise extend_s 16 (relaxed_dot x y)) c

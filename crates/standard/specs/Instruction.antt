-- The table from the standard's instruction number (after the 0xFD prefix) to its instruction.
use Rattle.std.specs.Prelude.{ℕ, ◌%◌, ◌^◌, List, [], ◌∷◌, get_or}
use Rattle.std.specs.Float.{binary32, binary64}
use Rattle.standard.specs.Lanes.{low_half, high_half, unary, binary, splat, extract, replace}
use Rattle.standard.specs.Integer.{iadd, isub, imul, ineg, iabs, ipopcnt, imin_u, imin_s, imax_u, imax_s, iadd_sat_u, iadd_sat_s, isub_sat_u, isub_sat_s}
use Rattle.standard.specs.Integer.{iavgr_u, iq15mulrsat_s, ishl, ishr_u, ishr_s, ieq, ine, ilt_u, igt_u, ile_u, ige_u, ilt_s, igt_s, ile_s, ige_s, inot}
use Rattle.standard.specs.Integer.{iand, ior, ixor, iandnot, ibitselect, extend_u, extend_s, narrow_u, narrow_s}
use Rattle.standard.specs.Float.{feq, fne, flt, fgt, fle, fge, fneg, fabs, fpmin, fpmax, fadd, fsub, fmul, fdiv, fmin, fmax}
use Rattle.standard.specs.Convert.{fceil, ffloor, ftrunc, fnearest, demote, promote, convert_u, convert_s, trunc_sat_u, trunc_sat_s}
use Rattle.standard.specs.Vector.{extend, extmul, extadd_pairwise, dot, narrow, convert_low, convert_zero, swizzle, any_true, all_true, bitmask}
use Rattle.standard.specs.Relaxed.{relaxed_swizzle, relaxed_laneselect, relaxed_q15mulr, relaxed_min, relaxed_max, relaxed_dot, relaxed_dot_add}

-- The kinds of a scalar, and a number for each: "0 i32, 1 i64, 2 f32, 3 f64, no other" (document 02, order 8).
pub data Kind : Type 0 where
  i32 i64 f32 f64 : Kind

abbrev pub kind_number : Kind → ℕ
kind_number i32 = 0
kind_number i64 = 1
kind_number f32 = 2
kind_number f64 = 3

-- What an instruction takes and gives. A scalar is its bits as a number; the width of a lane gives the lane count.
pub data Instruction : Type 0 where
  -- no instruction, or one that is not carried over
  none : Instruction
  -- a load or a store
  memory : Instruction
  -- v128.const: the sixteen bytes of the instruction
  const : Instruction
  -- i8x16.shuffle: two vectors, by the sixteen indices of the instruction
  shuffled : Instruction
  -- a vector from one, two or three vectors
  vector₁ : (ℕ → ℕ) → Instruction
  vector₂ : (ℕ → ℕ → ℕ) → Instruction
  vector₃ : (ℕ → ℕ → ℕ → ℕ) → Instruction
  -- a vector from a count and a vector
  shifted : (ℕ → ℕ → ℕ) → Instruction
  -- an i32 from a vector
  tested : (ℕ → ℕ) → Instruction
  -- a vector from a scalar of the kind
  splatted : Kind → (ℕ → ℕ) → Instruction
  -- a scalar of the kind from a vector of lanes of the width and a lane number
  extracted : Kind → ℕ → (ℕ → ℕ → ℕ) → Instruction
  -- a vector from a vector of lanes of the width, a lane number and a scalar of the kind
  replaced : Kind → ℕ → (ℕ → ℕ → ℕ → ℕ) → Instruction

-- For 8- and 16-bit lanes the low bits of an i32 are used.
unfoldable pub table : List Instruction
table =
    -- 0 v128.load
    memory ∷
    -- 1 v128.load8x8_s
    memory ∷
    -- 2 v128.load8x8_u
    memory ∷
    -- 3 v128.load16x4_s
    memory ∷
    -- 4 v128.load16x4_u
    memory ∷
    -- 5 v128.load32x2_s
    memory ∷
    -- 6 v128.load32x2_u
    memory ∷
    -- 7 v128.load8_splat
    memory ∷
    -- 8 v128.load16_splat
    memory ∷
    -- 9 v128.load32_splat
    memory ∷
    -- 10 v128.load64_splat
    memory ∷
    -- 11 v128.store
    memory ∷
    -- 12 v128.const
    const ∷
    -- 13 i8x16.shuffle
    shuffled ∷
    -- 14 i8x16.swizzle
    vector₂ swizzle ∷
    -- 15 i8x16.splat
    splatted i32 (λ c. splat 8 (c % 2 ^ 8)) ∷
    -- 16 i16x8.splat
    splatted i32 (λ c. splat 16 (c % 2 ^ 16)) ∷
    -- 17 i32x4.splat
    splatted i32 (splat 32) ∷
    -- 18 i64x2.splat
    splatted i64 (splat 64) ∷
    -- 19 f32x4.splat
    splatted f32 (splat 32) ∷
    -- 20 f64x2.splat
    splatted f64 (splat 64) ∷
    -- 21 i8x16.extract_lane_s
    extracted i32 8 (λ x i. extend_s 8 32 (extract 8 x i)) ∷
    -- 22 i8x16.extract_lane_u
    extracted i32 8 (extract 8) ∷
    -- 23 i8x16.replace_lane
    replaced i32 8 (λ x i c. replace 8 x i (c % 2 ^ 8)) ∷
    -- 24 i16x8.extract_lane_s
    extracted i32 16 (λ x i. extend_s 16 32 (extract 16 x i)) ∷
    -- 25 i16x8.extract_lane_u
    extracted i32 16 (extract 16) ∷
    -- 26 i16x8.replace_lane
    replaced i32 16 (λ x i c. replace 16 x i (c % 2 ^ 16)) ∷
    -- 27 i32x4.extract_lane
    extracted i32 32 (extract 32) ∷
    -- 28 i32x4.replace_lane
    replaced i32 32 (replace 32) ∷
    -- 29 i64x2.extract_lane
    extracted i64 64 (extract 64) ∷
    -- 30 i64x2.replace_lane
    replaced i64 64 (replace 64) ∷
    -- 31 f32x4.extract_lane
    extracted f32 32 (extract 32) ∷
    -- 32 f32x4.replace_lane
    replaced f32 32 (replace 32) ∷
    -- 33 f64x2.extract_lane
    extracted f64 64 (extract 64) ∷
    -- 34 f64x2.replace_lane
    replaced f64 64 (replace 64) ∷
    -- 35 i8x16.eq
    vector₂ (binary 8 (ieq 8)) ∷
    -- 36 i8x16.ne
    vector₂ (binary 8 (ine 8)) ∷
    -- 37 i8x16.lt_s
    vector₂ (binary 8 (ilt_s 8)) ∷
    -- 38 i8x16.lt_u
    vector₂ (binary 8 (ilt_u 8)) ∷
    -- 39 i8x16.gt_s
    vector₂ (binary 8 (igt_s 8)) ∷
    -- 40 i8x16.gt_u
    vector₂ (binary 8 (igt_u 8)) ∷
    -- 41 i8x16.le_s
    vector₂ (binary 8 (ile_s 8)) ∷
    -- 42 i8x16.le_u
    vector₂ (binary 8 (ile_u 8)) ∷
    -- 43 i8x16.ge_s
    vector₂ (binary 8 (ige_s 8)) ∷
    -- 44 i8x16.ge_u
    vector₂ (binary 8 (ige_u 8)) ∷
    -- 45 i16x8.eq
    vector₂ (binary 16 (ieq 16)) ∷
    -- 46 i16x8.ne
    vector₂ (binary 16 (ine 16)) ∷
    -- 47 i16x8.lt_s
    vector₂ (binary 16 (ilt_s 16)) ∷
    -- 48 i16x8.lt_u
    vector₂ (binary 16 (ilt_u 16)) ∷
    -- 49 i16x8.gt_s
    vector₂ (binary 16 (igt_s 16)) ∷
    -- 50 i16x8.gt_u
    vector₂ (binary 16 (igt_u 16)) ∷
    -- 51 i16x8.le_s
    vector₂ (binary 16 (ile_s 16)) ∷
    -- 52 i16x8.le_u
    vector₂ (binary 16 (ile_u 16)) ∷
    -- 53 i16x8.ge_s
    vector₂ (binary 16 (ige_s 16)) ∷
    -- 54 i16x8.ge_u
    vector₂ (binary 16 (ige_u 16)) ∷
    -- 55 i32x4.eq
    vector₂ (binary 32 (ieq 32)) ∷
    -- 56 i32x4.ne
    vector₂ (binary 32 (ine 32)) ∷
    -- 57 i32x4.lt_s
    vector₂ (binary 32 (ilt_s 32)) ∷
    -- 58 i32x4.lt_u
    vector₂ (binary 32 (ilt_u 32)) ∷
    -- 59 i32x4.gt_s
    vector₂ (binary 32 (igt_s 32)) ∷
    -- 60 i32x4.gt_u
    vector₂ (binary 32 (igt_u 32)) ∷
    -- 61 i32x4.le_s
    vector₂ (binary 32 (ile_s 32)) ∷
    -- 62 i32x4.le_u
    vector₂ (binary 32 (ile_u 32)) ∷
    -- 63 i32x4.ge_s
    vector₂ (binary 32 (ige_s 32)) ∷
    -- 64 i32x4.ge_u
    vector₂ (binary 32 (ige_u 32)) ∷
    -- 65 f32x4.eq
    vector₂ (binary 32 (feq binary32)) ∷
    -- 66 f32x4.ne
    vector₂ (binary 32 (fne binary32)) ∷
    -- 67 f32x4.lt
    vector₂ (binary 32 (flt binary32)) ∷
    -- 68 f32x4.gt
    vector₂ (binary 32 (fgt binary32)) ∷
    -- 69 f32x4.le
    vector₂ (binary 32 (fle binary32)) ∷
    -- 70 f32x4.ge
    vector₂ (binary 32 (fge binary32)) ∷
    -- 71 f64x2.eq
    vector₂ (binary 64 (feq binary64)) ∷
    -- 72 f64x2.ne
    vector₂ (binary 64 (fne binary64)) ∷
    -- 73 f64x2.lt
    vector₂ (binary 64 (flt binary64)) ∷
    -- 74 f64x2.gt
    vector₂ (binary 64 (fgt binary64)) ∷
    -- 75 f64x2.le
    vector₂ (binary 64 (fle binary64)) ∷
    -- 76 f64x2.ge
    vector₂ (binary 64 (fge binary64)) ∷
    -- 77 v128.not
    vector₁ (inot 128) ∷
    -- 78 v128.and
    vector₂ (iand 128) ∷
    -- 79 v128.andnot
    vector₂ (iandnot 128) ∷
    -- 80 v128.or
    vector₂ (ior 128) ∷
    -- 81 v128.xor
    vector₂ (ixor 128) ∷
    -- 82 v128.bitselect
    vector₃ (ibitselect 128) ∷
    -- 83 v128.any_true
    tested any_true ∷
    -- 84 v128.load8_lane
    memory ∷
    -- 85 v128.load16_lane
    memory ∷
    -- 86 v128.load32_lane
    memory ∷
    -- 87 v128.load64_lane
    memory ∷
    -- 88 v128.store8_lane
    memory ∷
    -- 89 v128.store16_lane
    memory ∷
    -- 90 v128.store32_lane
    memory ∷
    -- 91 v128.store64_lane
    memory ∷
    -- 92 v128.load32_zero
    memory ∷
    -- 93 v128.load64_zero
    memory ∷
    -- 94 f32x4.demote_f64x2_zero
    vector₁ (convert_zero demote) ∷
    -- 95 f64x2.promote_low_f32x4
    vector₁ (convert_low promote) ∷
    -- 96 i8x16.abs
    vector₁ (unary 8 (iabs 8)) ∷
    -- 97 i8x16.neg
    vector₁ (unary 8 (ineg 8)) ∷
    -- 98 i8x16.popcnt
    vector₁ (unary 8 (ipopcnt 8)) ∷
    -- 99 i8x16.all_true
    tested (all_true 8) ∷
    -- 100 i8x16.bitmask
    tested (bitmask 8) ∷
    -- 101 i8x16.narrow_i16x8_s
    vector₂ (narrow narrow_s 8) ∷
    -- 102 i8x16.narrow_i16x8_u
    vector₂ (narrow narrow_u 8) ∷
    -- 103 f32x4.ceil
    vector₁ (unary 32 (fceil binary32)) ∷
    -- 104 f32x4.floor
    vector₁ (unary 32 (ffloor binary32)) ∷
    -- 105 f32x4.trunc
    vector₁ (unary 32 (ftrunc binary32)) ∷
    -- 106 f32x4.nearest
    vector₁ (unary 32 (fnearest binary32)) ∷
    -- 107 i8x16.shl
    shifted (λ k. unary 8 (ishl 8 k)) ∷
    -- 108 i8x16.shr_s
    shifted (λ k. unary 8 (ishr_s 8 k)) ∷
    -- 109 i8x16.shr_u
    shifted (λ k. unary 8 (ishr_u 8 k)) ∷
    -- 110 i8x16.add
    vector₂ (binary 8 (iadd 8)) ∷
    -- 111 i8x16.add_sat_s
    vector₂ (binary 8 (iadd_sat_s 8)) ∷
    -- 112 i8x16.add_sat_u
    vector₂ (binary 8 (iadd_sat_u 8)) ∷
    -- 113 i8x16.sub
    vector₂ (binary 8 (isub 8)) ∷
    -- 114 i8x16.sub_sat_s
    vector₂ (binary 8 (isub_sat_s 8)) ∷
    -- 115 i8x16.sub_sat_u
    vector₂ (binary 8 (isub_sat_u 8)) ∷
    -- 116 f64x2.ceil
    vector₁ (unary 64 (fceil binary64)) ∷
    -- 117 f64x2.floor
    vector₁ (unary 64 (ffloor binary64)) ∷
    -- 118 i8x16.min_s
    vector₂ (binary 8 (imin_s 8)) ∷
    -- 119 i8x16.min_u
    vector₂ (binary 8 (imin_u 8)) ∷
    -- 120 i8x16.max_s
    vector₂ (binary 8 (imax_s 8)) ∷
    -- 121 i8x16.max_u
    vector₂ (binary 8 (imax_u 8)) ∷
    -- 122 f64x2.trunc
    vector₁ (unary 64 (ftrunc binary64)) ∷
    -- 123 i8x16.avgr_u
    vector₂ (binary 8 (iavgr_u 8)) ∷
    -- 124 i16x8.extadd_pairwise_i8x16_s
    vector₁ (extadd_pairwise extend_s 8) ∷
    -- 125 i16x8.extadd_pairwise_i8x16_u
    vector₁ (extadd_pairwise extend_u 8) ∷
    -- 126 i32x4.extadd_pairwise_i16x8_s
    vector₁ (extadd_pairwise extend_s 16) ∷
    -- 127 i32x4.extadd_pairwise_i16x8_u
    vector₁ (extadd_pairwise extend_u 16) ∷
    -- 128 i16x8.abs
    vector₁ (unary 16 (iabs 16)) ∷
    -- 129 i16x8.neg
    vector₁ (unary 16 (ineg 16)) ∷
    -- 130 i16x8.q15mulr_sat_s
    vector₂ (binary 16 (iq15mulrsat_s 16)) ∷
    -- 131 i16x8.all_true
    tested (all_true 16) ∷
    -- 132 i16x8.bitmask
    tested (bitmask 16) ∷
    -- 133 i16x8.narrow_i32x4_s
    vector₂ (narrow narrow_s 16) ∷
    -- 134 i16x8.narrow_i32x4_u
    vector₂ (narrow narrow_u 16) ∷
    -- 135 i16x8.extend_low_i8x16_s
    vector₁ (extend low_half extend_s 8) ∷
    -- 136 i16x8.extend_high_i8x16_s
    vector₁ (extend high_half extend_s 8) ∷
    -- 137 i16x8.extend_low_i8x16_u
    vector₁ (extend low_half extend_u 8) ∷
    -- 138 i16x8.extend_high_i8x16_u
    vector₁ (extend high_half extend_u 8) ∷
    -- 139 i16x8.shl
    shifted (λ k. unary 16 (ishl 16 k)) ∷
    -- 140 i16x8.shr_s
    shifted (λ k. unary 16 (ishr_s 16 k)) ∷
    -- 141 i16x8.shr_u
    shifted (λ k. unary 16 (ishr_u 16 k)) ∷
    -- 142 i16x8.add
    vector₂ (binary 16 (iadd 16)) ∷
    -- 143 i16x8.add_sat_s
    vector₂ (binary 16 (iadd_sat_s 16)) ∷
    -- 144 i16x8.add_sat_u
    vector₂ (binary 16 (iadd_sat_u 16)) ∷
    -- 145 i16x8.sub
    vector₂ (binary 16 (isub 16)) ∷
    -- 146 i16x8.sub_sat_s
    vector₂ (binary 16 (isub_sat_s 16)) ∷
    -- 147 i16x8.sub_sat_u
    vector₂ (binary 16 (isub_sat_u 16)) ∷
    -- 148 f64x2.nearest
    vector₁ (unary 64 (fnearest binary64)) ∷
    -- 149 i16x8.mul
    vector₂ (binary 16 (imul 16)) ∷
    -- 150 i16x8.min_s
    vector₂ (binary 16 (imin_s 16)) ∷
    -- 151 i16x8.min_u
    vector₂ (binary 16 (imin_u 16)) ∷
    -- 152 i16x8.max_s
    vector₂ (binary 16 (imax_s 16)) ∷
    -- 153 i16x8.max_u
    vector₂ (binary 16 (imax_u 16)) ∷
    -- 154 no instruction
    none ∷
    -- 155 i16x8.avgr_u
    vector₂ (binary 16 (iavgr_u 16)) ∷
    -- 156 i16x8.extmul_low_i8x16_s
    vector₂ (extmul low_half extend_s 8) ∷
    -- 157 i16x8.extmul_high_i8x16_s
    vector₂ (extmul high_half extend_s 8) ∷
    -- 158 i16x8.extmul_low_i8x16_u
    vector₂ (extmul low_half extend_u 8) ∷
    -- 159 i16x8.extmul_high_i8x16_u
    vector₂ (extmul high_half extend_u 8) ∷
    -- 160 i32x4.abs
    vector₁ (unary 32 (iabs 32)) ∷
    -- 161 i32x4.neg
    vector₁ (unary 32 (ineg 32)) ∷
    -- 162 no instruction
    none ∷
    -- 163 i32x4.all_true
    tested (all_true 32) ∷
    -- 164 i32x4.bitmask
    tested (bitmask 32) ∷
    -- 165 no instruction
    none ∷
    -- 166 no instruction
    none ∷
    -- 167 i32x4.extend_low_i16x8_s
    vector₁ (extend low_half extend_s 16) ∷
    -- 168 i32x4.extend_high_i16x8_s
    vector₁ (extend high_half extend_s 16) ∷
    -- 169 i32x4.extend_low_i16x8_u
    vector₁ (extend low_half extend_u 16) ∷
    -- 170 i32x4.extend_high_i16x8_u
    vector₁ (extend high_half extend_u 16) ∷
    -- 171 i32x4.shl
    shifted (λ k. unary 32 (ishl 32 k)) ∷
    -- 172 i32x4.shr_s
    shifted (λ k. unary 32 (ishr_s 32 k)) ∷
    -- 173 i32x4.shr_u
    shifted (λ k. unary 32 (ishr_u 32 k)) ∷
    -- 174 i32x4.add
    vector₂ (binary 32 (iadd 32)) ∷
    -- 175 no instruction
    none ∷
    -- 176 no instruction
    none ∷
    -- 177 i32x4.sub
    vector₂ (binary 32 (isub 32)) ∷
    -- 178 no instruction
    none ∷
    -- 179 no instruction
    none ∷
    -- 180 no instruction
    none ∷
    -- 181 i32x4.mul
    vector₂ (binary 32 (imul 32)) ∷
    -- 182 i32x4.min_s
    vector₂ (binary 32 (imin_s 32)) ∷
    -- 183 i32x4.min_u
    vector₂ (binary 32 (imin_u 32)) ∷
    -- 184 i32x4.max_s
    vector₂ (binary 32 (imax_s 32)) ∷
    -- 185 i32x4.max_u
    vector₂ (binary 32 (imax_u 32)) ∷
    -- 186 i32x4.dot_i16x8_s
    vector₂ (dot 16) ∷
    -- 187 no instruction
    none ∷
    -- 188 i32x4.extmul_low_i16x8_s
    vector₂ (extmul low_half extend_s 16) ∷
    -- 189 i32x4.extmul_high_i16x8_s
    vector₂ (extmul high_half extend_s 16) ∷
    -- 190 i32x4.extmul_low_i16x8_u
    vector₂ (extmul low_half extend_u 16) ∷
    -- 191 i32x4.extmul_high_i16x8_u
    vector₂ (extmul high_half extend_u 16) ∷
    -- 192 i64x2.abs
    vector₁ (unary 64 (iabs 64)) ∷
    -- 193 i64x2.neg
    vector₁ (unary 64 (ineg 64)) ∷
    -- 194 no instruction
    none ∷
    -- 195 i64x2.all_true
    tested (all_true 64) ∷
    -- 196 i64x2.bitmask
    tested (bitmask 64) ∷
    -- 197 no instruction
    none ∷
    -- 198 no instruction
    none ∷
    -- 199 i64x2.extend_low_i32x4_s
    vector₁ (extend low_half extend_s 32) ∷
    -- 200 i64x2.extend_high_i32x4_s
    vector₁ (extend high_half extend_s 32) ∷
    -- 201 i64x2.extend_low_i32x4_u
    vector₁ (extend low_half extend_u 32) ∷
    -- 202 i64x2.extend_high_i32x4_u
    vector₁ (extend high_half extend_u 32) ∷
    -- 203 i64x2.shl
    shifted (λ k. unary 64 (ishl 64 k)) ∷
    -- 204 i64x2.shr_s
    shifted (λ k. unary 64 (ishr_s 64 k)) ∷
    -- 205 i64x2.shr_u
    shifted (λ k. unary 64 (ishr_u 64 k)) ∷
    -- 206 i64x2.add
    vector₂ (binary 64 (iadd 64)) ∷
    -- 207 no instruction
    none ∷
    -- 208 no instruction
    none ∷
    -- 209 i64x2.sub
    vector₂ (binary 64 (isub 64)) ∷
    -- 210 no instruction
    none ∷
    -- 211 no instruction
    none ∷
    -- 212 no instruction
    none ∷
    -- 213 i64x2.mul
    vector₂ (binary 64 (imul 64)) ∷
    -- 214 i64x2.eq
    vector₂ (binary 64 (ieq 64)) ∷
    -- 215 i64x2.ne
    vector₂ (binary 64 (ine 64)) ∷
    -- 216 i64x2.lt_s
    vector₂ (binary 64 (ilt_s 64)) ∷
    -- 217 i64x2.gt_s
    vector₂ (binary 64 (igt_s 64)) ∷
    -- 218 i64x2.le_s
    vector₂ (binary 64 (ile_s 64)) ∷
    -- 219 i64x2.ge_s
    vector₂ (binary 64 (ige_s 64)) ∷
    -- 220 i64x2.extmul_low_i32x4_s
    vector₂ (extmul low_half extend_s 32) ∷
    -- 221 i64x2.extmul_high_i32x4_s
    vector₂ (extmul high_half extend_s 32) ∷
    -- 222 i64x2.extmul_low_i32x4_u
    vector₂ (extmul low_half extend_u 32) ∷
    -- 223 i64x2.extmul_high_i32x4_u
    vector₂ (extmul high_half extend_u 32) ∷
    -- 224 f32x4.abs
    vector₁ (unary 32 (fabs binary32)) ∷
    -- 225 f32x4.neg
    vector₁ (unary 32 (fneg binary32)) ∷
    -- 226 no instruction
    none ∷
    -- 227 f32x4.sqrt
    none ∷
    -- 228 f32x4.add
    vector₂ (binary 32 (fadd binary32)) ∷
    -- 229 f32x4.sub
    vector₂ (binary 32 (fsub binary32)) ∷
    -- 230 f32x4.mul
    vector₂ (binary 32 (fmul binary32)) ∷
    -- 231 f32x4.div
    vector₂ (binary 32 (fdiv binary32)) ∷
    -- 232 f32x4.min
    vector₂ (binary 32 (fmin binary32)) ∷
    -- 233 f32x4.max
    vector₂ (binary 32 (fmax binary32)) ∷
    -- 234 f32x4.pmin
    vector₂ (binary 32 (fpmin binary32)) ∷
    -- 235 f32x4.pmax
    vector₂ (binary 32 (fpmax binary32)) ∷
    -- 236 f64x2.abs
    vector₁ (unary 64 (fabs binary64)) ∷
    -- 237 f64x2.neg
    vector₁ (unary 64 (fneg binary64)) ∷
    -- 238 no instruction
    none ∷
    -- 239 f64x2.sqrt
    none ∷
    -- 240 f64x2.add
    vector₂ (binary 64 (fadd binary64)) ∷
    -- 241 f64x2.sub
    vector₂ (binary 64 (fsub binary64)) ∷
    -- 242 f64x2.mul
    vector₂ (binary 64 (fmul binary64)) ∷
    -- 243 f64x2.div
    vector₂ (binary 64 (fdiv binary64)) ∷
    -- 244 f64x2.min
    vector₂ (binary 64 (fmin binary64)) ∷
    -- 245 f64x2.max
    vector₂ (binary 64 (fmax binary64)) ∷
    -- 246 f64x2.pmin
    vector₂ (binary 64 (fpmin binary64)) ∷
    -- 247 f64x2.pmax
    vector₂ (binary 64 (fpmax binary64)) ∷
    -- 248 i32x4.trunc_sat_f32x4_s
    vector₁ (unary 32 (trunc_sat_s binary32)) ∷
    -- 249 i32x4.trunc_sat_f32x4_u
    vector₁ (unary 32 (trunc_sat_u binary32)) ∷
    -- 250 f32x4.convert_i32x4_s
    vector₁ (unary 32 (convert_s binary32)) ∷
    -- 251 f32x4.convert_i32x4_u
    vector₁ (unary 32 (convert_u binary32)) ∷
    -- 252 i32x4.trunc_sat_f64x2_s_zero
    vector₁ (convert_zero (trunc_sat_s binary64)) ∷
    -- 253 i32x4.trunc_sat_f64x2_u_zero
    vector₁ (convert_zero (trunc_sat_u binary64)) ∷
    -- 254 f64x2.convert_low_i32x4_s
    vector₁ (convert_low (convert_s binary64)) ∷
    -- 255 f64x2.convert_low_i32x4_u
    vector₁ (convert_low (convert_u binary64)) ∷
    -- 256 i8x16.relaxed_swizzle
    vector₂ relaxed_swizzle ∷
    -- 257 i32x4.relaxed_trunc_f32x4_s
    none ∷
    -- 258 i32x4.relaxed_trunc_f32x4_u
    none ∷
    -- 259 i32x4.relaxed_trunc_f64x2_s_zero
    none ∷
    -- 260 i32x4.relaxed_trunc_f64x2_u_zero
    none ∷
    -- 261 f32x4.relaxed_madd
    none ∷
    -- 262 f32x4.relaxed_nmadd
    none ∷
    -- 263 f64x2.relaxed_madd
    none ∷
    -- 264 f64x2.relaxed_nmadd
    none ∷
    -- 265 i8x16.relaxed_laneselect
    vector₃ relaxed_laneselect ∷
    -- 266 i16x8.relaxed_laneselect
    vector₃ relaxed_laneselect ∷
    -- 267 i32x4.relaxed_laneselect
    vector₃ relaxed_laneselect ∷
    -- 268 i64x2.relaxed_laneselect
    vector₃ relaxed_laneselect ∷
    -- 269 f32x4.relaxed_min
    vector₂ (relaxed_min binary32) ∷
    -- 270 f32x4.relaxed_max
    vector₂ (relaxed_max binary32) ∷
    -- 271 f64x2.relaxed_min
    vector₂ (relaxed_min binary64) ∷
    -- 272 f64x2.relaxed_max
    vector₂ (relaxed_max binary64) ∷
    -- 273 i16x8.relaxed_q15mulr_s
    vector₂ relaxed_q15mulr ∷
    -- 274 i16x8.relaxed_dot_i8x16_i7x16_s
    vector₂ relaxed_dot ∷
    -- 275 i32x4.relaxed_dot_i8x16_i7x16_add_s
    vector₃ relaxed_dot_add ∷ []

-- The instruction of a number.
unfoldable pub instruction : ℕ → Instruction
unfolding table
instruction n = get_or table n none

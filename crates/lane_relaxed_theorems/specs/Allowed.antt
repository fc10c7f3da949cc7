-- What WebAssembly 3.0 allows the relaxed instructions to give ("Relaxed Operations" of its numerics): a set of values for each lane. The set is the list of
-- what its parameters choose from, the plain operation's value first as there; of the NaNs that it leaves open only the canonical ones and the operands are
-- listed, so the sets here are the smaller ones.
use Rattle.std.specs.Prelude.{◌≡◌, ℕ, ◌-◌, ◌/◌, ◌%◌, ◌^◌, ◌<◌, cond, ◌&&◌, ◌||◌, List, [], ◌∷◌, ltb, leb, eqb, get_or}
use Rattle.std.specs.Float.{Format, nan}
use Rattle.std.specs.Float.Ieee.{to_bits, nan_bits}
use Rattle.standard.specs.Lanes.{extract}
use Rattle.standard.specs.Integer.{iadd, iadd_sat_s, imul, iq15mulrsat_s, ibitselect, extend_u, extend_s}
use Rattle.standard.specs.Float.{fneg, fabs}

-- i8x16.relaxed_swizzle: an index below 16 gives its lane, of 16 to 127 either 0 or the lane at the index modulo 16, from 128 on 0.
abbrev pub swizzled : List ℕ → ℕ → List ℕ
swizzled xs i = cond (ltb i 16) (get_or xs i 0 ∷ []) (cond (ltb i 128) (0 ∷ get_or xs (i % 16) 0 ∷ []) (0 ∷ []))

-- shape.relaxed_laneselect on lanes of width w: a where the mask is all ones, b where it is all zeros, else either bitselect's lane or the one that the
-- mask's top bit chooses.
abbrev pub selected : ℕ → ℕ → ℕ → ℕ → List ℕ
selected w a b m =
    cond (eqb m (2 ^ w - 1)) (a ∷ []) (cond (eqb m 0) (b ∷ []) (ibitselect w a b m ∷ cond (leb (2 ^ (w - 1)) m) a b ∷ []))

-- i16x8.relaxed_q15mulr_s: of −32768 and −32768 either end of the range, else q15mulr_sat_s.
abbrev pub multiplied : ℕ → ℕ → List ℕ
multiplied a b = cond (eqb a 0x8000 && eqb b 0x8000) (0x7fff ∷ 0x8000 ∷ []) (iq15mulrsat_s 16 a b ∷ [])

-- relaxed_min and relaxed_max: where either is a NaN, a NaN or either operand; of two zeros either operand; else min and max.
abbrev pub chosen : (Format → ℕ → ℕ → ℕ) → Format → ℕ → ℕ → List ℕ
chosen op f a b =
    cond (nan_bits f a || nan_bits f b) (to_bits f nan ∷ fneg f (to_bits f nan) ∷ a ∷ b ∷ [])
    (cond (eqb (fabs f a) 0 && eqb (fabs f b) 0) (op f a b ∷ a ∷ b ∷ []) (op f a b ∷ []))

-- i16x8.relaxed_dot_i8x16_i7x16_s on a pair of lanes: the two bytes of a, read as signed, times the two bytes of b, read as signed or as unsigned ones; the sum
-- of the products held to the range. Byte lanes 2i and 2i + 1 are the low and the high byte of 16-bit lane i.
abbrev pub dotted : (ℕ → ℕ → ℕ → ℕ) → ℕ → ℕ → ℕ
dotted sx a b =
    iadd_sat_s 16 (imul 16 (extend_s 8 16 (a % 2 ^ 8)) (sx 8 16 (b % 2 ^ 8))) (imul 16 (extend_s 8 16 (a / 2 ^ 8)) (sx 8 16 (b / 2 ^ 8)))

-- i32x4.relaxed_dot_i8x16_i7x16_add_s on lanes a and b of 32 bits, whose halves are two such pairs: the two dots added as signed numbers, and c, modulo 2^32.
abbrev pub dotted_added : (ℕ → ℕ → ℕ → ℕ) → ℕ → ℕ → ℕ → ℕ
dotted_added sx a b c =
    iadd 32 (iadd 32 (extend_s 16 32 (dotted sx (a % 2 ^ 16) (b % 2 ^ 16))) (extend_s 16 32 (dotted sx (a / 2 ^ 16) (b / 2 ^ 16)))) c

abbrev pub dots : ℕ → ℕ → List ℕ
dots a b = dotted extend_s a b ∷ dotted extend_u a b ∷ []

abbrev pub dots_added : ℕ → ℕ → ℕ → List ℕ
dots_added a b c = dotted_added extend_s a b c ∷ dotted_added extend_u a b c ∷ []

-- A parameter is chosen once, so one choice holds for every lane of a vector: with choice c, counted from 0, lane i is value c of its set; a set of one value
-- leaves nothing to choose.
abbrev pub value : ℕ → List ℕ → ℕ
value c vs = get_or vs c (get_or vs 0 0)

abbrev pub ByChoice : ℕ → ℕ → ℕ → (ℕ → List ℕ) → Type 0
ByChoice c w r sets = (i : ℕ) → i < 128 / w → extract w r i ≡ value c (sets i)

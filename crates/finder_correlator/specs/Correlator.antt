-- The frame correlator of examples/marker.txt: in how many bits four words of 32 bits differ from a marker, by the vector instructions.
use Rattle.std.specs.Prelude.{ℕ, ◌/◌, ◌%◌, ◌^◌, List, [], ◌∷◌, ◌++◌, replicate}
use Rattle.standard.specs.Lanes.{unary, splat}
use Rattle.standard.specs.Integer.{ipopcnt, ixor, extend_u}
use Rattle.standard.specs.Vector.{extadd_pairwise}

-- i32x4.extadd_pairwise_i16x8_u (i16x8.extadd_pairwise_i8x16_u (i8x16.popcnt x))
abbrev pub counted : ℕ → ℕ
counted x = extadd_pairwise extend_u 16 (extadd_pairwise extend_u 8 (unary 8 (ipopcnt 8) x))

-- .. of v128.xor with the marker in every lane of i32x4
abbrev pub correlated : ℕ → ℕ → ℕ
correlated a m = counted (ixor 128 a (splat 32 m))

-- A step of 32 bytes: the operation, the destination, two sources, and the sixteen bytes of a constant.
abbrev pub step_of : ℕ → ℕ → ℕ → ℕ → List ℕ → List ℕ
step_of operation destination a b constant = operation ∷ 0 ∷ destination ∷ a ∷ b ∷ 0 ∷ 0 ∷ 0 ∷ 0 ∷ 0 ∷ 0 ∷ 0 ∷ 0 ∷ 0 ∷ 0 ∷ 0 ∷ constant

abbrev pub no_constant : List ℕ
no_constant = replicate 16 0

-- The first eight steps of examples/marker.txt, over any sixteen bytes and any four bytes of a marker, each as they stand in a buffer.
abbrev pub steps_of : List ℕ → List ℕ → List ℕ
steps_of words marker =
    -- v128.const r1
    step_of 12 1 0 0 words ++
    -- v128.const r2
    step_of 12 2 0 0 (marker ++ replicate 12 0) ++
    -- i32x4.extract_lane r2 0
    step_of 27 0 2 0 no_constant ++
    -- i32x4.splat r2
    step_of 17 2 0 0 no_constant ++
    -- v128.xor r3 r1 r2
    step_of 81 3 1 2 no_constant ++
    -- i8x16.popcnt r4 r3
    step_of 98 4 3 0 no_constant ++
    -- i16x8.extadd_pairwise_i8x16_u r5 r4
    step_of 125 5 4 0 no_constant ++
    -- i32x4.extadd_pairwise_i16x8_u r6 r5
    step_of 127 6 5 0 no_constant

-- A marker's four bytes as a buffer has them, the top one first.
abbrev pub sent : ℕ → List ℕ
sent m = m / 2 ^ 24 % 256 ∷ m / 2 ^ 16 % 256 ∷ m / 2 ^ 8 % 256 ∷ m % 256 ∷ []

-- Worked examples, by which a reader can hold the definition. Assumes nothing.
use mathlib.Core.Path.{◌≡◌, refl}
use mathlib.Core.List.{[], ◌∷◌, map}
use Prim.Native.Nat.{◌+◌, ◌*◌, ◌^◌}
use Rattle.standard.specs.Integer.{iadd, ixor, ipopcnt, bitwise}
use Rattle.standard.specs.Lanes.{unary, binary, zip}
use Rattle.row_halves.specs.Rows.{vectors, halves, refusal, half_refusal, after}

-- an empty row is fine
empty_row : half_refusal 0 0 ≡ 0
empty_row = refl

-- rows of one vector and of two, and rows of three halves
lengths_differ : half_refusal 2 4 ≡ 12
lengths_differ = refl

odd_row : half_refusal 3 3 ≡ 12
odd_row = refl

low_half_first : vectors (5 ∷ 7 ∷ []) ≡ (5 + 2 ^ 64 * 7) ∷ []
low_half_first = refl

-- a lane that comes round carries nothing into its neighbour, nor into the other half
sums : halves (zip (binary 8 (iadd 8)) (vectors (0xff00000000000001 ∷ 0x01 ∷ [])) (vectors (0x01000000000000ff ∷ 0x01 ∷ []))) ≡ 0x00 ∷ 0x02 ∷ []
unfolding binary
sums = refl

exclusive_ors : halves (zip (ixor 128) (vectors (12 ∷ 0 ∷ [])) (vectors (10 ∷ 2 ^ 63 ∷ []))) ≡ 6 ∷ 2 ^ 63 ∷ []
unfolding bitwise
exclusive_ors = refl

counts : halves (map (unary 8 (ipopcnt 8)) (vectors (0xff01 ∷ 0x7f ∷ []))) ≡ 0x0801 ∷ 0x07 ∷ []
unfolding unary
counts = refl

-- nothing is written by a call that is refused
refused_row : after (refusal 1 2) (6 ∷ []) (5 ∷ []) ≡ 5 ∷ []
refused_row = refl

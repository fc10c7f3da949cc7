-- What functions over lanes of two widths promise: the low or the high half of the lanes by a flag, and sums over the two halves of a lane.
use Rattle.std.specs.Prelude.{ℕ, ◌*◌, ◌/◌, ◌%◌, ◌^◌, Bool, true, false, List}
use Rattle.standard.specs.Lanes.{low_half, high_half}
use Rattle.standard.specs.Integer.{iadd, imul, extend_s}

abbrev pub half_of : Bool → List ℕ → List ℕ
half_of true = high_half
half_of false = low_half

-- The two lanes of half the width in a lane, extended: their sum, and the sum of their products with those of another.
abbrev pub pair_sum : (ℕ → ℕ → ℕ → ℕ) → ℕ → ℕ → ℕ
pair_sum sx w a = iadd (2 * w) (sx w (2 * w) (a % 2 ^ w)) (sx w (2 * w) (a / 2 ^ w))

abbrev pub pair_product : ℕ → ℕ → ℕ → ℕ
pair_product w a b =
    iadd (2 * w) (imul (2 * w) (extend_s w (2 * w) (a % 2 ^ w)) (extend_s w (2 * w) (b % 2 ^ w)))
    (imul (2 * w) (extend_s w (2 * w) (a / 2 ^ w)) (extend_s w (2 * w) (b / 2 ^ w)))

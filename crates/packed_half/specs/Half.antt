-- A half of a vector, 64 bits, as its 64 / w lanes of width w (document 01, "Lane rules": "lane i of width w bits is bits w·i to w·i+w−1").
use Rattle.std.specs.Prelude.{ℕ, ◌≡◌, ◌+◌, ◌-◌, ◌*◌, ◌/◌, ◌^◌, cond, map, eqb}
use Rattle.std.specs.Int.Signed.{non_neg}
use Rattle.standard.specs.Lanes.{digits, joined, zip}
use Rattle.standard.specs.Integer.{signed}
use Rattle.standard.specs.Vector.{no_zero}

-- The width divides a half, and so a vector.
abbrev pub Divides : ℕ → Type 0
Divides w = (w * (64 / w) ≡ 64) × (64 / w + 64 / w ≡ 128 / w)

-- f of each lane.
unfoldable pub half_unary : ℕ → (ℕ → ℕ) → ℕ → ℕ
half_unary w f a = joined w (map f (digits w (64 / w) a))

-- f of each pair of lanes.
unfoldable pub half_binary : ℕ → (ℕ → ℕ → ℕ) → ℕ → ℕ → ℕ
half_binary w f a b = joined w (zip f (digits w (64 / w) a) (digits w (64 / w) b))

-- shape.all_true of the half's lanes: 1 where no lane is 0, else 0.
unfoldable pub half_all_true : ℕ → ℕ → ℕ
half_all_true w a = no_zero (digits w (64 / w) a)

-- The sign bit of a lane: 1 where its signed reading is negative.
abbrev pub sign_bit : ℕ → ℕ → ℕ
sign_bit w i = cond (non_neg (signed w i)) 0 1

-- shape.bitmask of the half's lanes: bit i is the sign bit of lane i.
unfoldable pub half_bitmask : ℕ → ℕ → ℕ
half_bitmask w a = joined 1 (map (sign_bit w) (digits w (64 / w) a))

-- The top bit of a lane that is 0, and 0 of any other.
abbrev pub zero_top : ℕ → ℕ → ℕ
zero_top w i = cond (eqb i 0) (2 ^ (w - 1)) 0

-- What a call on rows of vectors of the code hands back and leaves: the rows as their numbers.
use Rattle.std.specs.Prelude.{ℕ, ◌≡◌, List, map, length}
use Rattle.standard.specs.Lanes.{zip}
use Rattle.simd.specs.Number.{number}
use Rattle.simd.specs.declared.V128.{V128}
use Rattle.row_halves.specs.Rows.{refusal, after}

-- f of each two vectors at one place, in the first one's place, and 0; or refused, and each vector as it was.
abbrev pub Combined : (ℕ → ℕ → ℕ) → List V128 → List V128 → ℕ → List V128 → Type 0
Combined f first second r left =
    (r ≡ refusal (length first) (length second)) × (map number left ≡ after r (zip f (map number first) (map number second)) (map number first))

-- f of each vector in its place.
abbrev pub Mapped : (ℕ → ℕ) → List V128 → List V128 → Type 0
Mapped f first left = map number left ≡ map f (map number first)

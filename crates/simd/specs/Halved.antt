-- A width of lanes of which a half of a vector has whole ones, and a vector twice as many.
-- No reader has to believe it: private clauses alone cite it.
use Rattle.std.specs.Prelude.{ℕ, ◌≡◌, ◌+◌, ◌*◌, ◌/◌}

abbrev pub IsHalved : ℕ → Type 0
IsHalved w = (w * (64 / w) ≡ 64) × (64 / w + 64 / w ≡ 128 / w) × (128 / (2 * w) ≡ 64 / w)

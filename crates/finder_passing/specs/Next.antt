-- What passes over bytes in which every window is too far from the marker.
use Rattle.std.specs.Prelude.{◌≡◌, ℕ, ◌+◌, ◌*◌, ◌<◌, ◌≤◌, ◌⊎◌, List, length}
use Rattle.finder_windows.specs.Definition.{bits, marker_bits, window, distance}

abbrev pub away : List ℕ → ℕ → ℕ → ℕ
away buffer m p = distance (window (bits buffer) p) (marker_bits m)

-- Every window that begins in the bytes from one place to another differs from the marker in more than t bits.
abbrev pub Far : List ℕ → ℕ → ℕ → ℕ → ℕ → Type 0
Far buffer m t from to = (p : ℕ) → 8 * from ≤ p → p < 8 * to → t < away buffer m p

-- r is the first byte from a byte on, below an end, in which a window begins that is within the tolerance; the end, or the first byte without four after it,
-- where there is none.
pub record Next (buffer : List ℕ) (m t from end r : ℕ) : Type 0 where
  pub reached : from ≤ r
  pub inside : (r ≡ from) ⊎ ((r ≤ end) × (r + 4 ≤ length buffer))
  pub far : Far buffer m t from r
  pub near : r < end → r + 5 ≤ length buffer → Far buffer m t r (r + 1) → ⊥

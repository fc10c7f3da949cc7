-- The distances of 256 windows that follow each other, laid by their place in a byte: entry 32 * k + j is that of the window that begins 8 * j + k bits after
-- the first.
use Rattle.std.specs.Prelude.{ℕ, ◌+◌, ◌*◌, ◌/◌, ◌%◌, ◌<◌, ◌≡◌, List, length, get_or, take, drop}
use Rattle.finder_windows.specs.Definition.{binary, bits, marker_bits, window, distance}

-- how far after the first the window of an entry begins
abbrev pub after : ℕ → ℕ
after i = 8 * (i % 32) + i / 32

-- the first n entries for the windows from bit p of a buffer on
abbrev pub Laid : List ℕ → ℕ → ℕ → List ℕ → ℕ → Type 0
Laid bs p m away n = (length away ≡ 256) × ((i : ℕ) → i < n → get_or away i 0 ≡ distance (window (bits bs) (p + after i)) (marker_bits m))

-- The 32 bits that begin in each of n bytes from one on, and the byte after them.
abbrev pub Spread : List ℕ → ℕ → List ℕ → List ℕ → ℕ → Type 0
Spread bs byte heads nexts n =
    (length heads ≡ 33) × (length nexts ≡ 33)
    × ((j : ℕ) → j < n → (binary 32 (get_or heads j 0) ≡ bits (take 4 (drop (byte + j) bs))) × (get_or nexts j 0 ≡ get_or bs (byte + j + 4) 0) ×
    (get_or bs (byte + j + 4) 0 < 256))

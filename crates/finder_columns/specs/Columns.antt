-- Columns: in how many bits a byte differs from a marker, for the eight windows that begin in one byte, a lane of 8 bits for each. A window that begins r bits
-- after a byte's top stands over five bytes; a column has an entry for each value of one of them.
use Rattle.std.specs.Prelude.{ℕ, zero, suc, ◌+◌, ◌-◌, ◌*◌, ◌/◌, ◌%◌, ◌^◌, ◌<◌, ◌≡◌, List, [], ◌∷◌, length, get_or}
use Rattle.std.specs.Int.Bits.{bit_and, bit_xor}
use Rattle.std.specs.Int.Count.{ones}
use Rattle.standard.specs.Lanes.{joined}

-- f of n numbers from k on.
unfoldable pub row : (ℕ → ℕ) → ℕ → ℕ → List ℕ
row f k zero = []
row f k (suc n) = f k ∷ row f (k + 1) n

-- Eight numbers as the lanes of a half, the first in the lowest.
unfoldable pub eight : (ℕ → ℕ) → ℕ
eight f = joined 8 (row f 0 8)

-- Byte q of the five, where the window begins r bits after the first one's top: what the marker has there, and zeros beside the window.
unfoldable pub piece : ℕ → ℕ → ℕ → ℕ
piece m q r = m * 256 / 2 ^ (r + 32 - 8 * q) % 256

-- The bits of the window in which byte q, x, differs from the marker; 2^32 - 1 is the marker whose pieces are the window itself.
unfoldable pub differing : ℕ → ℕ → ℕ → ℕ → ℕ
differing m q r x = bit_xor (bit_and x (piece 4294967295 q r)) (piece m q r)

-- 127 less the tolerance stands in the first column, so that the top bit of a sum is set where the window differs in more than t bits.
unfoldable pub slack : ℕ → ℕ → ℕ
slack t zero = 127 - t
slack t (suc q) = 0

-- The entry for the value x of byte q.
unfoldable pub entry : ℕ → ℕ → ℕ → ℕ → ℕ
entry m t q x = eight (λ r. slack t q + ones (differing m q r x))

-- A table whose first i entries are those of the columns of a marker and a tolerance, one column after the other.
abbrev pub Made : ℕ → ℕ → List ℕ → ℕ → Type 0
Made m t table i = (length table ≡ 1280) × ((j : ℕ) → j < i → get_or table j 0 ≡ entry m t (j / 256) (j % 256))

abbrev pub Columns : ℕ → ℕ → List ℕ → Type 0
Columns m t table = Made m t table 1280

-- Numbers and bytes as text, in ASCII codes.
use Rattle.std.specs.Prelude.{ℕ, zero, suc, ◌+◌, ◌/◌, ◌%◌, cond, List, [], ◌∷◌, ◌++◌, ltb}

-- a digit below 16: `0` to `9`, then `a` to `f`
abbrev pub glyph : ℕ → ℕ
glyph d = cond (ltb d 10) (48 + d) (87 + d)

-- the last k digits of n in base b, highest first
unfoldable pub digits : ℕ → ℕ → ℕ → List ℕ
digits b zero n = []
digits b (suc k) n = digits b k (n / b) ++ (glyph (n % b) ∷ [])

-- how many decimal digits a number has, and at most one more than k: one below ten, and else one more than a tenth of it has
unfoldable pub places : ℕ → ℕ → ℕ
places zero n = 1
places (suc k) n = cond (ltb n 10) 1 (suc (places k (n / 10)))

-- a number of at most 20 decimal digits, as every number below 2 ^ 64 is, with no zero in front
unfoldable pub decimal : ℕ → List ℕ
decimal n = digits 10 (places 19 n) n

abbrev pub two_decimals : ℕ → List ℕ
two_decimals n = digits 10 2 n

abbrev pub hex : ℕ → ℕ → List ℕ
hex k n = digits 16 k n

-- two hex digits for each byte
unfoldable pub hex_bytes : List ℕ → List ℕ
hex_bytes [] = []
hex_bytes (b ∷ bs) = hex 2 b ++ hex_bytes bs

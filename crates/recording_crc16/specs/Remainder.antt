-- The check of a field recording (document 02, order 8): "the CRC-16 with polynomial x^16 + x^12 + x^5 + 1, start all ones, top bit first, no final xor". It is
-- the remainder of the division of polynomials over two elements, bit by bit. A register is a number below 2^16, whose bit k is the coefficient of x^k; a
-- message is the list of its bits in the order in which they come.
use Rattle.std.specs.Prelude.{Bool, true, false, List, [], ◌∷◌, ◌++◌, ℕ, zero, suc, ◌*◌, ◌/◌, ◌%◌, ◌^◌, eqb}
use Rattle.std.specs.Int.Bits.{bit_xor}

infixl 60 ◌⊕◌
-- The sum of two polynomials: exclusive or, bit by bit.
unfoldable pub ◌⊕◌ : ℕ → ℕ → ℕ
a ⊕ b = bit_xor a b

-- A register times x: one place up, and where x^16 comes up, x^12 + x^5 + 1, which is 4129, stands for it.
unfoldable pub shift : ℕ → ℕ
shift r = (r / 32768 % 2 * 4129) ⊕ (r * 2 % 65536)

-- A bit as the coefficient of x^15.
abbrev pub top : Bool → ℕ
top true = 32768
top false = 0

-- One bit of the message: it is added at the top, and the register goes on by one place.
unfoldable pub step : ℕ → Bool → ℕ
step r b = shift (r ⊕ top b)

unfoldable pub run : ℕ → List Bool → ℕ
run r [] = r
run r (b ∷ bs) = run (step r b) bs

-- The k low bits of n, "top bit first".
unfoldable pub bits : ℕ → ℕ → List Bool
bits zero n = []
bits (suc k) n = eqb (n / 2 ^ k % 2) 1 ∷ bits k n

-- The bits of a list of bytes.
unfoldable pub spread : List ℕ → List Bool
spread [] = []
spread (x ∷ xs) = bits 8 x ++ spread xs

-- The check of a list of bytes: "start all ones", "no final xor".
unfoldable pub check : List ℕ → ℕ
check bytes = run 65535 (spread bytes)

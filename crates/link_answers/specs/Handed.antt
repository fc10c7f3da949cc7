-- What C is handed where an operation may refuse: a value and the number of a refusal. The number is 0 where the value is given, and the value is 0 where it is
-- refused.
use Rattle.std.specs.Prelude.{ℕ, List}
use Rattle.standard.specs.Refusal.{Answer, given, refused}
use Rattle.standard.specs.Memory.{Accessed, answered, past, Stored, written, kept, kept_past}

unfoldable pub pair : Answer ℕ → ℕ × ℕ
pair (given x) = (x, 0)
pair (refused n) = (0, n)

-- the value alone
unfoldable pub or_zero : Answer ℕ → ℕ
or_zero (given x) = x
or_zero (refused n) = 0

-- of an access: the value, how far past the end it runs, and the number of a refusal
unfoldable pub access_numbers : Accessed ℕ → ℕ × ℕ × ℕ
access_numbers (answered (given x)) = (x, 0, 0)
access_numbers (answered (refused n)) = (0, 0, n)
access_numbers (past n short) = (0, short, n)

unfoldable pub access_or_zero : Accessed ℕ → ℕ
access_or_zero (answered a) = or_zero a
access_or_zero (past n short) = 0

-- of a store: how far past the end it runs, the number of a refusal, and every byte of the memory afterwards
unfoldable pub store_numbers : Stored → ℕ × ℕ × List ℕ
store_numbers (written after) = (0, 0, after)
store_numbers (kept n after) = (0, n, after)
store_numbers (kept_past n short after) = (short, n, after)

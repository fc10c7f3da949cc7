-- What a numeral of the code stands for.
use Rattle.std.specs.Prelude.{ℕ, Option, Some, None}
use Rattle.program_arguments.specs.Arguments as Arguments

abbrev pub numeral_of : Option ℕ → Arguments.Numeral
numeral_of (Some n) = Arguments.number n
numeral_of None = Arguments.none

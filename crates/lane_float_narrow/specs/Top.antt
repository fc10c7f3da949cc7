-- The place of a number's leading digit, and of 0 the place that 1 has. Private functions hand it on, and no reader has to believe it: the promises of
-- src/lib.rt are the standard's conversions.
use Rattle.std.specs.Prelude.{ℕ, ◌-◌}
use Rattle.std.specs.Int.Bits.{bit_or}
use Rattle.std.specs.Int.Count.{count_leading_zeros}

abbrev pub top_digit : ℕ → ℕ
top_digit n = 31 - count_leading_zeros 32 (bit_or n 1)

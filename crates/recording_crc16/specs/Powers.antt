-- Between the code and the definition: a register times a power of x.
use Rattle.std.specs.Prelude.{ℕ, zero, suc}
use Rattle.recording_crc16.specs.Remainder.{shift}

unfoldable pub times : ℕ → ℕ → ℕ
times zero r = r
times (suc n) r = times n (shift r)

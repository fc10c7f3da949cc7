-- What the values of the code stand for. Document 01, "Memory": the effective address is the exact sum of pointer and offset, or the address of an
-- `_at` form. An access that runs past the end is refused with 7, and says how far past (document 02, order 9).
use Rattle.std.specs.Prelude.{ℕ, ◌+◌, Result, Ok, Err}
use Rattle.standard.specs.Refusal.{given}
use Rattle.standard.specs.Memory.{Accessed, answered, past}
use Rattle.memory_bounds.specs.declared.Effective.{Effective}
use Rattle.memory_bounds.specs.declared.Shortfall.{Shortfall}

abbrev pub effective : Effective → ℕ
effective (Effective.Sum p o) = p + o
effective (Effective.Address a) = a

abbrev pub access_answer : Result ℕ Shortfall → Accessed ℕ
access_answer (Ok i) = answered (given i)
access_answer (Err short) = past 7 short.0

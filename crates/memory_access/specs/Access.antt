-- What the answers of the code stand for. An access that runs past the end is refused with 7, and says how far past (document 02, order 9).
use Rattle.std.specs.Prelude.{ℕ, List, Result, Ok, Err}
use Rattle.standard.specs.Refusal.{given}
use Rattle.standard.specs.Memory.{Accessed, answered, past, Stored, written, kept_past}
use Rattle.memory_bounds.specs.declared.Shortfall.{Shortfall}

-- A load's answer, by the number that its value stands for.
abbrev pub fetched : {A : Type 0} → (A → ℕ) → Result A Shortfall → Accessed ℕ
fetched value (Ok x) = answered (given (value x))
fetched value (Err short) = past 7 short.0

-- A store's answer with the memory that it leaves.
abbrev pub put_answer : Result (Unit {0}) Shortfall → List ℕ → Stored
put_answer (Ok done) after = written after
put_answer (Err short) after = kept_past 7 short.0 after

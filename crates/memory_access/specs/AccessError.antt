-- What an access that is refused stands for: an operation's refusal, or 7 and how far past the end it runs (document 02, order 9).
use Rattle.std.specs.Prelude.{ℕ, List, Result, Ok, Err}
use Rattle.standard.specs.Refusal.{refused}
use Rattle.standard.specs.Memory.{Accessed, answered, past, Stored, written, kept, kept_past}
use Rattle.standard_refusal.specs.Number.{number_of}
use Rattle.memory_access.specs.declared.AccessError.{AccessError}

abbrev pub error_number : AccessError → ℕ
error_number (AccessError.Refused refusal) = number_of refusal
error_number (AccessError.Past short) = 7

abbrev pub error_shortfall : AccessError → ℕ
error_shortfall (AccessError.Refused refusal) = 0
error_shortfall (AccessError.Past short) = short.0

abbrev pub refused_access : {A : Type 0} → AccessError → Accessed A
refused_access (AccessError.Refused refusal) = answered (refused (number_of refusal))
refused_access (AccessError.Past short) = past 7 short.0

-- A store's answer with the memory that it leaves.
abbrev pub store_answer : Result (Unit {0}) AccessError → List ℕ → Stored
store_answer (Ok done) after = written after
store_answer (Err (AccessError.Refused refusal)) after = kept (number_of refusal) after
store_answer (Err (AccessError.Past short)) after = kept_past 7 short.0 after

-- What an answer of a load stands for.
use Rattle.std.specs.Prelude.{ℕ, Result, Ok, Err}
use Rattle.standard.specs.Refusal.{given}
use Rattle.standard.specs.Memory.{Accessed, answered}
use Rattle.memory_access.specs.declared.AccessError.{AccessError}
use Rattle.memory_access.specs.AccessError.{refused_access}
use Rattle.simd.specs.declared.V128.{V128}
use Rattle.simd.specs.Number.{number}

abbrev pub load_answer : Result V128 AccessError → Accessed ℕ
load_answer (Ok v) = answered (given (number v))
load_answer (Err error) = refused_access error

-- What the code's step stands for in the definition.
use Rattle.std.specs.Prelude.{ℕ, ◌%◌, cond, List, get_or, Result, Ok, Err}
use Rattle.standard.specs.Instruction.{instruction}
use Rattle.standard.specs.Refusal.{Answer, given, refused}
use Rattle.standard_refusal.specs.Number.{number_of}
use Rattle.standard_refusal.specs.declared.Refusal.{Refusal}
use Rattle.calculator_rules.specs.Definition.{Machine, operation, destination, profile}
use Rattle.calculator_state.specs.State.{vectors, held}
use Rattle.calculator_step.specs.declared.Stepped.{Stepped}

-- with the words and the writers that a step leaves
abbrev pub answer_of : Result Stepped Refusal → List ℕ → List ℕ → Answer Machine
answer_of (Ok left) w n = given (held w n left.scalar)
answer_of (Err refusal) w n = refused (number_of refusal)

-- "the 16-byte vector written (zeros if none)" (document 02, order 8): of a step that is not refused, in the words that it leaves
abbrev pub vector_left : List ℕ → List ℕ → ℕ
vector_left w s = cond (profile (instruction (operation s))).gives_vector (get_or (vectors w) (destination s % 16) 0) 0

-- "what the operation uses and nothing else, in this order: destination, sources a, b, c .., a lane .., sixteen bytes": what an operation's line has after its
-- name, by the operation's shape.
use Rattle.std.specs.Prelude.{ℕ, cond, ◌&&◌, ◌||◌, eqb, leb}
use Rattle.standard.specs.Instruction.{instruction}
use Rattle.calculator_rules.specs.Shape.{shape}
use Rattle.calculator_rules.specs.declared.shape.Shape.{Shape}

-- Registers of consecutive places from `first` on, then lane numbers, then bytes. The places are those of a step's bytes: 2 destination; 3, 4, 5 sources a, b,
-- c; 6 lane; 16 to 31 the constant or the indices. "The destination is used only where the result is a vector"; "splat takes no source register".
pub record Form : Type 0 where
  pub first : ℕ
  pub registers : ℕ
  pub lanes : ℕ
  pub bytes : ℕ

abbrev pub of_registers : ℕ → ℕ → Form
of_registers first n = record { first = first; registers = n; lanes = 0; bytes = 0 }

abbrev pub form_of : Shape → Form
form_of Shape.None = of_registers 2 0
form_of Shape.Constant = record { first = 2; registers = 1; lanes = 0; bytes = 16 }
form_of Shape.Shuffle = record { first = 2; registers = 3; lanes = 0; bytes = 16 }
form_of Shape.Unary = of_registers 2 2
form_of Shape.Binary = of_registers 2 3
form_of Shape.Ternary = of_registers 2 4
form_of Shape.Shift = of_registers 2 2
form_of Shape.Test = of_registers 3 1
form_of (Shape.Splat k) = of_registers 2 1
form_of (Shape.Extract n) = record { first = 3; registers = 1; lanes = 1; bytes = 0 }
form_of (Shape.Replace n k) = record { first = 2; registers = 2; lanes = 1; bytes = 0 }

-- The calculator has no step for these ten, and refuses them with 2; a line has them as the standard does: square roots and relaxed truncations of one vector,
-- relaxed multiply-adds of three. Loads and stores, which it refuses too, have their name alone.
unfoldable pub form : ℕ → Form
form n =
    cond (eqb n 227 || (eqb n 239 || (leb 257 n && leb n 260))) (of_registers 2 2)
    (cond (leb 261 n && leb n 264) (of_registers 2 4) (form_of (shape (instruction n))))

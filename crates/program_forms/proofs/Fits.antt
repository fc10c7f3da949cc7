-- The fields of every form lie in a step. Assumes nothing.
use mathlib.Core.Bool.{Bool, true, false, cond, ◌&&◌, ◌||◌}
use Prim.Native.Nat.{ℕ, ◌+◌, ◌≤◌}
use native.Mathlib.Omega.{arith}
use lib.Dec.{eqb, leb}
use Rattle.standard.specs.Instruction.{instruction}
use Rattle.calculator_rules.specs.Shape.{shape}
use Rattle.calculator_rules.specs.declared.shape.Shape.{Shape}
use Rattle.program_forms.specs.Forms.{Form, of_registers, form_of, form}

pub record Fitting (f : Form) : Type 0 where
  pub first : 2 ≤ f.first
  pub registers : f.first + f.registers ≤ 6
  pub lanes : f.lanes ≤ 1
  pub bytes : f.bytes ≤ 16

fitting : (b d : Bool) (s : Shape) → Fitting (cond b (of_registers 2 2) (cond d (of_registers 2 4) (form_of s)))
fitting true d s = record { first = omega arith; registers = omega arith; lanes = omega arith; bytes = omega arith }
fitting false true s = record { first = omega arith; registers = omega arith; lanes = omega arith; bytes = omega arith }
fitting false false Shape.None = record { first = omega arith; registers = omega arith; lanes = omega arith; bytes = omega arith }
fitting false false Shape.Constant = record { first = omega arith; registers = omega arith; lanes = omega arith; bytes = omega arith }
fitting false false Shape.Shuffle = record { first = omega arith; registers = omega arith; lanes = omega arith; bytes = omega arith }
fitting false false Shape.Unary = record { first = omega arith; registers = omega arith; lanes = omega arith; bytes = omega arith }
fitting false false Shape.Binary = record { first = omega arith; registers = omega arith; lanes = omega arith; bytes = omega arith }
fitting false false Shape.Ternary = record { first = omega arith; registers = omega arith; lanes = omega arith; bytes = omega arith }
fitting false false Shape.Shift = record { first = omega arith; registers = omega arith; lanes = omega arith; bytes = omega arith }
fitting false false Shape.Test = record { first = omega arith; registers = omega arith; lanes = omega arith; bytes = omega arith }
fitting false false (Shape.Splat k) = record { first = omega arith; registers = omega arith; lanes = omega arith; bytes = omega arith }
fitting false false (Shape.Extract n) = record { first = omega arith; registers = omega arith; lanes = omega arith; bytes = omega arith }
fitting false false (Shape.Replace n k) = record { first = omega arith; registers = omega arith; lanes = omega arith; bytes = omega arith }

pub form_fits : (n : ℕ) → Fitting (form n)
unfolding form
form_fits n = fitting (eqb n 227 || (eqb n 239 || (leb 257 n && leb n 260))) (leb 261 n && leb n 264) (shape (instruction n))

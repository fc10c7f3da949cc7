-- What the parts of the code do for a step of a shape, whether or not its instruction has that shape and whatever registers it names: between the code and
-- the definition.
use Rattle.std.specs.Prelude.{ℕ, suc, ◌%◌, cond, List, get_or, set}
use Rattle.standard.specs.Vector.{shuffle}
use Rattle.standard.specs.Refusal.{at_indices}
use Rattle.standard.specs.Instruction.{Kind, Instruction, i32}
use Rattle.calculator_rules.specs.Definition.{Machine, destination, lane, constant, indices, hold}
use Rattle.calculator_rules.specs.Shape.{profile_of}
use Rattle.calculator_rules.specs.declared.shape.Shape.{Shape}
use Rattle.calculator_scalar.specs.Count.{as_count}
use Rattle.calculator_families.specs.Family.{given_or, as_unary, as_binary, as_ternary, as_shift, as_test, as_splat, as_extract, as_replace}

-- the vector in the register that the low four bits of a byte name, and a state with a vector there
abbrev pub named : List ℕ → List ℕ → ℕ → ℕ
named registers s j = get_or registers (get_or s j 0 % 16) 0

abbrev pub written : Machine → List ℕ → ℕ → Machine
written m s v =
    record { registers = set m.registers (destination s % 16) v; writers = m.writers; kind = m.kind; bits = m.bits }

-- of the registers and the scalar's kind and bits
abbrev pub makes : Shape → Instruction → List ℕ → Kind → ℕ → List ℕ → ℕ
makes Shape.None i r k b s = named r s 3
makes Shape.Constant i r k b s = constant s
makes Shape.Shuffle i r k b s = given_or (named r s 3) (at_indices (indices s) (shuffle (indices s) (named r s 3) (named r s 4)))
makes Shape.Unary i r k b s = as_unary i (named r s 3)
makes Shape.Binary i r k b s = as_binary i (named r s 3) (named r s 4)
makes Shape.Ternary i r k b s = as_ternary i (named r s 3) (named r s 4) (named r s 5)
makes Shape.Shift i r k b s = as_shift i (as_count k b) (named r s 3)
makes Shape.Test i r k b s = named r s 3
makes (Shape.Splat x) i r k b s = as_splat k i b
makes (Shape.Extract n) i r k b s = named r s 3
makes (Shape.Replace n x) i r k b s = as_replace k i (named r s 3) (lane s) b

abbrev pub writes : Shape → Instruction → Machine → List ℕ → Machine
writes x i m s = written m s (makes x i m.registers m.kind m.bits s)

-- of the registers and the scalar; the numbers beside the registers stay
abbrev pub sets : Shape → Instruction → Machine → List ℕ → Machine
sets Shape.None i m s = m
sets Shape.Constant i m s = writes Shape.Constant i m s
sets Shape.Shuffle i m s = writes Shape.Shuffle i m s
sets Shape.Unary i m s = writes Shape.Unary i m s
sets Shape.Binary i m s = writes Shape.Binary i m s
sets Shape.Ternary i m s = writes Shape.Ternary i m s
sets Shape.Shift i m s = writes Shape.Shift i m s
sets Shape.Test i m s = hold m i32 (as_test i (named m.registers s 3))
sets (Shape.Splat x) i m s = writes (Shape.Splat x) i m s
sets (Shape.Extract n) i m s =
    hold m (as_extract i (named m.registers s 3) (lane s)).0 (as_extract i (named m.registers s 3) (lane s)).1
sets (Shape.Replace n x) i m s = writes (Shape.Replace n x) i m s

-- of the numbers: a step that gives a vector numbers the register
abbrev pub numbers : Shape → ℕ → List ℕ → List ℕ → List ℕ
numbers x place ns s = cond (profile_of x).gives_vector (set ns (destination s % 16) (suc place)) ns

abbrev pub does : Shape → Instruction → ℕ → Machine → List ℕ → Machine
does x i place m s =
    sets x i (record { registers = m.registers; writers = numbers x place m.writers s; kind = m.kind; bits = m.bits }) s

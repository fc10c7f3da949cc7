-- The definition's machine that a state of the code stands for, and that the words of a run, its writers and its scalar stand for.
use Rattle.std.specs.Prelude.{ℕ, ◌+◌, ◌*◌, ◌^◌, List, [], ◌∷◌, map}
use Rattle.calculator_rules.specs.Definition.{Machine}
use Rattle.simd.specs.Number.{number}
use Rattle.calculator_scalar.specs.Scalar.{kind_of, bits_of}
use Rattle.calculator_scalar.specs.declared.Scalar.{Scalar}
use Rattle.calculator_state.specs.declared.State.{State}

abbrev pub machine : State → Machine
machine s =
    record {
      registers = map number s.registers;
      writers = s.writers;
      kind = kind_of s.scalar;
      bits = bits_of s.scalar;
    }

-- two words a register, low half first
abbrev pub vectors : List ℕ → List ℕ
vectors [] = []
vectors (lo ∷ []) = lo ∷ []
vectors (lo ∷ hi ∷ ws) = (lo + 2 ^ 64 * hi) ∷ vectors ws

abbrev pub held : List ℕ → List ℕ → Scalar → Machine
held w n s = record { registers = vectors w; writers = n; kind = kind_of s; bits = bits_of s }

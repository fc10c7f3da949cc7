-- The calculator's state, as the code holds it and as C hands it over. Assumes nothing.
use Prim.Native.Nat.{ℕ}
use mathlib.Core.Path.{◌≡◌, refl}
use mathlib.Core.List.{List}
use Rattle.calculator_rules.specs.Definition.{Machine}
use Rattle.calculator_scalar.specs.Scalar.{kind_of, bits_of, scalar_of}
use Rattle.calculator_scalar.specs.declared.Scalar.{Scalar}
use Rattle.calculator_state.specs.State.{vectors}
use Rattle.link_station.specs.Calculate.{told, machine_told}

-- the state of a scalar is the one that the scalar's numbers stand for
pub machines : (r w n : List ℕ) (s : Scalar) (k b : ℕ) → r ≡ vectors w → scalar_of s ≡ told k b
    → ◌≡◌ {A = Machine} (record { registers = r; writers = n; kind = kind_of s; bits = bits_of s }) (machine_told w n k b)
machines r w n s k b e f = rw (e, ← f) refl

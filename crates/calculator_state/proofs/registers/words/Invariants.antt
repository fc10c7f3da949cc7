-- `calculator_state::registers::words` meets its contract: the first i registers are copied. Assumes nothing.
use mathlib.Core.Path.{◌≡◌}
use mathlib.Core.List.{map}
use Prim.Native.Nat.{◌-◌, ◌≤◌}
use lib.ListN.{length, take}
use Rattle.simd.specs.Number.{number}
use Rattle.calculator_state.specs.State.{vectors}
use Rattle.calculator_state.proofs.registers.words.Given as goal

abbrev pub invariant-loop-i : goal.invariant-loop-i
invariant-loop-i l = (l.i ≤ 16) × (length (vectors l.w) ≡ 16) × (take l.i (vectors l.w) ≡ take l.i (map number l.all))

abbrev pub decreases-loop-i : goal.decreases-loop-i
decreases-loop-i l = 16 - l.i

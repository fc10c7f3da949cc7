-- `program_outcome::put_vector` meets its contract. Assumes nothing.
use Prim.Native.Nat.{◌+◌, ◌-◌, ◌≤◌}
use mathlib.Core.Path.{◌≡◌}
use lib.ListN.{length}
use Rattle.calculator_rules.specs.Definition.{bytes}
use Rattle.program_digits.specs.Digits.{hex_bytes}
use Rattle.program_digits.proofs.Puts.{Completes}
use Rattle.program_outcome.proofs.put_vector.Given as goal

abbrev pub invariant-loop-i : goal.invariant-loop-i
invariant-loop-i l =
    (l.i ≤ 16) × (length l.out ≡ length l.initial.out)
    × Completes l.initial.out l.at (hex_bytes (bytes l.r 32 16)) l.out l.next (hex_bytes (bytes l.r (32 + l.i) (16 - l.i)))

abbrev pub decreases-loop-i : goal.decreases-loop-i
decreases-loop-i l = 16 - l.i

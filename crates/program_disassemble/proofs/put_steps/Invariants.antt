-- `program_disassemble::put_steps` meets its contract: what is written so far, and one line more. Assumes nothing.
use Prim.Native.Nat.{◌-◌, ◌/◌, ◌≤◌}
use mathlib.Core.Path.{◌≡◌}
use lib.ListN.{length}
use Rattle.program_digits.specs.Put.{Wrote}
use Rattle.program_disassemble.specs.Written.{lines}
use Rattle.program_disassemble.proofs.put_steps.Given as goal

abbrev pub invariant-loop-i : goal.invariant-loop-i
invariant-loop-i l = (l.i ≤ length l.list / 32) × (length l.out ≡ length l.initial.out) × Wrote l.initial.out 0 (lines 1 l.i l.list) l.out l.next

abbrev pub decreases-loop-i : goal.decreases-loop-i
decreases-loop-i l = length l.list / 32 - l.i

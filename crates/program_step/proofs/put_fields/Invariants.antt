-- `program_step::put_fields` meets its contract: what is written so far, and one field more. Assumes nothing.
use Prim.Native.Nat.{◌-◌, ◌≤◌}
use mathlib.Core.Path.{◌≡◌}
use lib.ListN.{length}
use Rattle.program_digits.specs.Put.{Wrote}
use Rattle.program_fields.specs.Values.{field_of}
use Rattle.program_step.specs.Shown.{fields}
use Rattle.program_step.proofs.put_fields.Given as goal

abbrev pub invariant-loop-i : goal.invariant-loop-i
invariant-loop-i l = (l.i ≤ l.count) × (length l.out ≡ length l.initial.out) × Wrote l.initial.out l.at
    (fields (field_of l.kind) l.i l.place l.step) l.out l.next

abbrev pub decreases-loop-i : goal.decreases-loop-i
decreases-loop-i l = l.count - l.i

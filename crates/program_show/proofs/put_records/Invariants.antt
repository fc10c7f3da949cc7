-- `program_show::put_records` meets its contract. Assumes nothing.
use mathlib.Core.Path.{◌≡◌}
use Prim.Native.Nat.{◌-◌, ◌≤◌}
use lib.ListN.{length}
use Rattle.calculator_rules.specs.Definition.{start}
use Rattle.calculator_state.specs.State.{held}
use Rattle.program_digits.proofs.Puts.{Completes}
use Rattle.program_show.specs.Show.{show_from}
use Rattle.program_show.proofs.put_records.Given as goal

abbrev pub invariant-loop-at : goal.invariant-loop-at
invariant-loop-at l =
    (l.at ≤ l.n) × (length l.out ≡ length l.initial.out)
    × Completes l.initial.out 0 (show_from l.n 0 l.file start) l.out l.next (show_from (l.n - l.at) l.at l.file (held l.w l.writers l.scalar))

abbrev pub decreases-loop-at : goal.decreases-loop-at
decreases-loop-at l = l.n - l.at

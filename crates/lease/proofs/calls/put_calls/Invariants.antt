-- `lease::calls::put_calls` meets its contract. Assumes nothing.
use Prim.Native.Nat.{ℕ, ◌-◌, ◌/◌, ◌≤◌, ◌<◌, ◌^◌}
use mathlib.Core.Path.{◌≡◌}
use lib.ListN.{length}
use Rattle.calculator_rules.specs.Definition.{start}
use Rattle.calculator_state.specs.State.{machine}
use Rattle.program_digits.proofs.Puts.{Completes}
use Rattle.lease.specs.Lease.{calls}
use Rattle.lease.proofs.calls.put_calls.Given as goal

abbrev pub invariant-loop-out : goal.invariant-loop-out
invariant-loop-out l =
    (l.before ≤ l.at) × (l.at < 2 ^ 62) × (length l.out ≡ length l.initial.out)
    × ((n : ℕ) × (256 - l.at < n) ×
    Completes l.initial.out 0 (calls 257 l.list l.place l.limit 0 start) l.out l.next (calls n l.list l.at l.limit l.before (machine l.state)))

abbrev pub decreases-loop-out : goal.decreases-loop-out
decreases-loop-out l = length l.list / 32 - l.at

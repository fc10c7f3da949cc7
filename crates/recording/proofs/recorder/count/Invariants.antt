-- `recording::recorder::count` meets its contract: the records counted, and those of what is left of the run, are as many as the run's. Assumes nothing.
use mathlib.Core.Path.{◌≡◌}
use Prim.Native.Nat.{◌+◌, ◌-◌, ◌*◌, ◌/◌, ◌≤◌}
use lib.ListN.{length, drop}
use Rattle.calculator_state.specs.State.{held}
use Rattle.recording_rules.specs.Definition.{records_from, records_of}
use Rattle.recording.proofs.recorder.count.Given as goal

abbrev pub invariant-loop-at : goal.invariant-loop-at
invariant-loop-at l =
    (l.n ≡ length l.list / 32) × (l.at ≤ l.n) × (length l.list ≤ 8192)
    × (64 * l.at + length (records_from (l.n - l.at) l.at (drop (32 * l.at) l.list) (held l.w l.writers l.scalar)) ≡ length (records_of l.list))

abbrev pub decreases-loop-at : goal.decreases-loop-at
decreases-loop-at l = l.n - l.at

-- `recording::recorder::record_steps` meets its contract: the records written, and what is left of the run, are the run's records. Assumes nothing.
use mathlib.Core.Path.{◌≡◌}
use mathlib.Core.List.{◌++◌}
use Prim.Native.Nat.{◌+◌, ◌-◌, ◌*◌, ◌/◌, ◌≤◌}
use lib.ListN.{length, drop}
use Rattle.calculator_state.specs.State.{held}
use Rattle.recording_packing.specs.Definition.{blocks_for, standing}
use Rattle.recording_rules.specs.Definition.{records_from, records_of}
use Rattle.recording.proofs.recorder.record_steps.Given as goal

abbrev pub invariant-loop-at : goal.invariant-loop-at
invariant-loop-at l =
    (l.n ≡ length l.list / 32) × (l.at ≤ l.n) × (length l.list ≤ 8192) × (512 * blocks_for (length (records_of l.list)) ≤ length l.out)
    × (length l.out ≡ length l.initial.out)
    × (64 * l.at + length (records_from (l.n - l.at) l.at (drop (32 * l.at) l.list) (held l.w l.writers l.scalar)) ≡ length (records_of l.list))
    × (standing l.at l.out ++ records_from (l.n - l.at) l.at (drop (32 * l.at) l.list) (held l.w l.writers l.scalar) ≡ records_of l.list)
    × (drop (512 * blocks_for (64 * l.at)) l.out ≡ drop (512 * blocks_for (64 * l.at)) l.initial.out)

abbrev pub decreases-loop-at : goal.decreases-loop-at
decreases-loop-at l = l.n - l.at

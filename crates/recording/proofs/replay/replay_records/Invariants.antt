-- `recording::replay::replay_records` meets its contract: what is left of the replay is the replay. Assumes nothing.
use mathlib.Core.Path.{◌≡◌}
use Prim.Native.Nat.{◌-◌}
use Rattle.calculator_rules.specs.Definition.{start}
use Rattle.calculator_state.specs.State.{held}
use Rattle.recording_rules.specs.Definition.{replay_from}
use Rattle.recording.proofs.replay.replay_records.Given as goal

abbrev pub invariant-loop-at : goal.invariant-loop-at
invariant-loop-at l = replay_from (l.n - l.at) l.at l.file (held l.w l.writers l.scalar) ≡ replay_from l.n 0 l.file start

-- `program_input::read_to`: what has come stands at the start of the buffer, and each turn brings a byte or more.
use Rattle.std.proofs.Common.{length, ◌-◌, ◌≡◌, take, ◌≤◌}
use Rattle.std.specs.Io.KnownBytes.{Consumes}
use Rattle.program_input.proofs.read_to.Given as goal

abbrev pub invariant-loop-bytes : goal.invariant-loop-bytes
invariant-loop-bytes g l =
    (length l.buffer ≡ length l.initial.buffer) × (l.bytes ≤ length l.buffer) ×
    Consumes (g.R.Read.remaining l.initial.input) (g.R.Read.remaining l.input) (take l.bytes l.buffer)

abbrev pub decreases-loop-bytes : goal.decreases-loop-bytes
decreases-loop-bytes g l = length l.initial.buffer - l.bytes

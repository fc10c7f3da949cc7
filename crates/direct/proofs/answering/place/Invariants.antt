-- `direct::answering::place` is safe and ends: a store keeps the length of the output. Assumes nothing.
use Rattle.std.proofs.Common.{◌≡◌, length}
use Rattle.direct.proofs.answering.place.Given as goal

abbrev pub invariant-loop-i : goal.invariant-loop-i
invariant-loop-i l = length l.output ≡ length l.initial.output

-- `direct::answering::answer_all` is safe and ends: each turn starts further on, within the chunk, and the answers stay within the output. Assumes nothing.
use Rattle.std.proofs.Common.{◌≡◌, ◌-◌, ◌≤◌, length}
use Rattle.direct.proofs.answering.answer_all.Given as goal

abbrev pub invariant-loop-at : goal.invariant-loop-at
invariant-loop-at l = (l.at ≤ length l.input) × (l.used ≤ 40960) × (length l.output ≡ 40960)

abbrev pub decreases-loop-at : goal.decreases-loop-at
decreases-loop-at l = length l.input - l.at

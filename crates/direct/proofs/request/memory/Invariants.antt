-- `direct::request::memory` keeps the length of the memory: a store does. Assumes nothing.
use Rattle.std.proofs.Common.{◌≡◌}
use Rattle.std.proofs.Math.ListN
use Rattle.direct.proofs.request.memory.Given as goal

abbrev pub invariant-loop-i : goal.invariant-loop-i
invariant-loop-i l = 48 ≡ ListN.length l.out

-- `memory_bounds::reach_sum` meets its contract. Assumes nothing.
use Rattle.std.proofs.Common.{arith}
use Rattle.memory_bounds.proofs.Bounds.{within_reach, beyond_reach}
use Rattle.memory_bounds.proofs.reach_sum.Goals as goal
use Rattle.memory_bounds.proofs.reach_sum.Goals.{then-at-ptr-via-then-at-ptr, then-at-ptr-via-else-at-ptr+then-length-n}
use Rattle.memory_bounds.proofs.reach_sum.Goals.{then-at-ptr-via-else-at-ptr+else-length-n+then-length-n-2}

pub returns-then-at-ptr : goal.returns-then-at-ptr
returns-then-at-ptr c =
    beyond_reach _ _ _ c.of_access.ensures
    (elim c.then-at-ptr.branch [
      | then-at-ptr-via-then-at-ptr w ↦ omega arith
      | then-at-ptr-via-else-at-ptr+then-length-n w ↦ omega arith
      | then-at-ptr-via-else-at-ptr+else-length-n+then-length-n-2 w ↦ omega arith
    ])

pub returns : goal.returns
returns c = within_reach _ _ _ (omega arith) (omega arith)

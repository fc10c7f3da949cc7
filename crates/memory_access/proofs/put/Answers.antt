-- `memory_access::put` meets its contract. Assumes nothing.
use Rattle.std.proofs.Common.{rules, arith}
use Rattle.memory_bounds.proofs.Bounds.{reached, put, unput}
use Rattle.memory_access.proofs.Bytes.{written_part}
use Rattle.memory_access.proofs.put.Goals as goal

pub returns-in_err-at : goal.returns-in_err-at
returns-in_err-at g c = let e = unput _ _ _ (g.N.Number.value c.args.x) c.in_err-at.ensures in search rules

pub overflow_add-at : goal.overflow_add-at
overflow_add-at g c = let e = reached _ _ _ c.in_ok-at.ensures in omega arith

pub slice_bounds-write-end : goal.slice_bounds-write-end
slice_bounds-write-end g c = let e = reached _ _ _ c.in_ok-at.ensures in search rules

pub returns : goal.returns
returns g c = put _ _ _ _ (rw c.SIZE.ensures at c.in_ok-at.ensures) (written_part _ _ _ _ _ c.write.ensures (omega arith))

-- `memory_access::fetch` meets its contract. Assumes nothing.
use Rattle.std.proofs.Common.{rules, arith, ◌+◌}
use Rattle.memory_bounds.proofs.Bounds.{reached, fetched, unfetched}
use Rattle.memory_access.proofs.Bytes.{read_part}
use Rattle.memory_access.proofs.fetch.Goals as goal

pub returns-in_err-at : goal.returns-in_err-at
returns-in_err-at g c = let e = unfetched _ _ _ c.in_err-at.ensures in search rules

pub overflow_add-at : goal.overflow_add-at
overflow_add-at g c = let e = reached _ _ _ c.in_ok-at.ensures in omega arith

pub slice_bounds-read-end : goal.slice_bounds-read-end
slice_bounds-read-end g c = let e = reached _ _ _ c.in_ok-at.ensures in search rules

pub returns : goal.returns
returns g c =
    fetched _ _ _ (rw c.SIZE.ensures at c.in_ok-at.ensures) (read_part _ _ _ (c.in_ok-at.at + c.SIZE-2.result) c.read.ensures (omega arith))

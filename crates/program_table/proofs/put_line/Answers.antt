-- `program_table::put_line` meets its contract. Assumes nothing.
use Rattle.program_table.proofs.put_line.Goals as goal

pub returns : goal.returns
returns c = rw c.nth-s.ensures.is at c.put.ensures

-- `Halves::write` meets its contract. Assumes nothing.
use Rattle.std.proofs.Common.{rules}
use Rattle.memory_access.proofs.Bytes.{written_halves}
use Rattle.memory_access.proofs.HalvesNumber.write.Goals as goal

pub returns : goal.returns
returns c = written_halves 8 _ _ (search rules) c.requires c.write.ensures c.write-2.ensures

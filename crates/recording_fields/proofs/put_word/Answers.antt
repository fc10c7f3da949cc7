-- `recording_fields::put_word` meets its contract. Assumes nothing.
use Rattle.std.proofs.Common.{arith, ◌+◌}
use Rattle.memory_access.proofs.Bytes.{written_part}
use Rattle.recording_fields.proofs.put_word.Goals as goal

pub returns : goal.returns
returns c = written_part _ _ 8 (c.args.at + 8) _ c.write.ensures (omega arith)

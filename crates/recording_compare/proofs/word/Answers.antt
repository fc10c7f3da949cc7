-- `recording_compare::word` meets its contract. Assumes nothing.
use Rattle.std.proofs.Common.{arith, ◌+◌, ap, ◌∙◌}
use Rattle.standard.specs.Lanes.{digits}
use Rattle.memory_access.proofs.Bytes.{read_part}
use Rattle.recording_fields.proofs.Words.{word_bytes}
use Rattle.recording_compare.proofs.word.Goals as goal

pub returns : goal.returns
returns c =
    let a = c.args in
    ap (digits 8 8) (read_part a.bytes.now a.at 8 (a.at + 8) c.read.ensures (omega arith))
    ∙ word_bytes a.bytes.now a.at (λ i. (c.type_inv.bytes i).fits) c.requires

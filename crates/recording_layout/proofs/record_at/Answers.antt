-- `recording_layout::record_at` meets its contract: the bytes of the block that holds the record. Assumes nothing.
use Rattle.std.proofs.Common.{ap, ◌∙◌, ◌+◌, ◌*◌, ◌/◌, ◌%◌, []}
use Rattle.recording_layout.specs.Definition.{part}
use Rattle.recording_layout.proofs.Chunks.{nth_block}
use Rattle.recording_layout.proofs.record_at.Goals as goal

pub returns-clause-bytes : goal.returns-clause-bytes
returns-clause-bytes c =
    let at = c.args.at in
    let found = c.in_ok-block.ensures.lookup.3 in
    let start = 4 + 64 * (at % 7) in
    ap (part start (start + 64)) (found.1 [] ∙ nth_block c.args.file.now c.as_chunks.result.0.now c.as_chunks.ensures.front (at / 7) found.0)

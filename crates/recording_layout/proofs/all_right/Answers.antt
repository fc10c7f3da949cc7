-- `recording_layout::all_right` meets its contract. Assumes nothing.
use Rattle.std.proofs.Common.{rules, tests, ◌∙◌, ◌/◌, length}
use Rattle.std.proofs.lemmas.Iterator.{YieldsList-from_slice}
use Rattle.std.proofs.lemmas.Iterator.Search.{all_from_yields_List}
use Rattle.std.specs.Simd.{first_chunks}
use Rattle.recording_crc16.specs.Block.{right}
use Rattle.recording_layout.proofs.Chunks.{all_pieces}
use Rattle.recording_layout.proofs.all_right.Goals as goal

pub returns : goal.returns
returns c =
    let file = c.args.file.now in
    let blocks = first_chunks 512 (length file / 512) file in
    all_from_yields_List right _ _ _ c.all.ensures.ran (YieldsList-from_slice blocks cc) (λ x b q k. search (rules, tests))
    ∙ all_pieces 512 right (length file / 512) file

-- `recording_layout_judge::all_laid` meets its contract. Assumes nothing.
use Rattle.std.proofs.Common.{◌≡◌, refl, sym, ◌∙◌, arith, ℕ, ◌<◌, ◌/◌, List, [], length, get_or}
use Rattle.std.specs.Simd.{first_chunks}
use Rattle.recording_layout.specs.Definition.{each_below, blocks, laid_block, block_laid}
use Rattle.recording_layout.proofs.Below.{fails, passes}
use Rattle.recording_layout.proofs.Chunks.{count_blocks, nth_block}
use Rattle.recording_layout_judge.proofs.all_laid.Goals as goal

-- a block among the pieces of the file
among : (file : List ℕ) (bs : List (List ℕ)) (k : ℕ) → bs ≡ first_chunks 512 (length file / 512) file → k < length bs
    → block_laid (length bs) k (get_or bs k []) ≡ laid_block file k
among file bs k e h = rw (count_blocks file bs e, nth_block file bs e k h)

pub loop-k-init : goal.loop-k-init
unfolding each_below
loop-k-init c = refl

pub returns-then-not-is_block : goal.returns-then-not-is_block
returns-then-not-is_block c =
    let file = c.args.file.now in
    sym (fails (blocks file) (laid_block file) c.loop-k.k (omega arith)
    (sym (among file _ c.loop-k.k c.as_chunks.ensures.front c.loop-k-test.true) ∙ sym c.is_block.ensures ∙ c.if-not-is_block.true))

pub loop-k-preserved : goal.loop-k-preserved
loop-k-preserved c =
    let file = c.args.file.now in
    passes c.loop-k.k (laid_block file) c.loop-k.invariant
    (sym (among file _ c.loop-k.k c.as_chunks.ensures.front c.loop-k-test.true) ∙ sym c.is_block.ensures ∙ c.if-not-is_block.false)

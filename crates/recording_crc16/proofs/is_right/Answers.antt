-- `recording_crc16::is_right` meets its contract. Assumes nothing.
use mathlib.Core.Path.{sym}
use native.Mathlib.Omega.{arith}
use lib.Seq.{length-take-le}
use borrow.Author.Tests.{eq-eqb, ne_eqb}
use Rattle.recording_crc16.specs.Block.{right}
use Rattle.recording_crc16.proofs.is_right.Goals as goal

pub returns-then-block-ne512 : goal.returns-then-block-ne512
unfolding right
returns-then-block-ne512 c = rw (ne_eqb _ _ c.if-block-ne512.true)

pub slice_bounds-check-end : goal.slice_bounds-check-end
slice_bounds-check-end c = sym (length-take-le 510 c.args.block.now (omega arith))

pub returns : goal.returns
unfolding right
returns c =
    rw (c.check.ensures, c.from_be_bytes.ensures, eq-eqb _ _ c.if-block-ne512.false)

-- `program_input::read_to` meets its contract: what a read brings stands behind what came before. Assumes nothing.
use Rattle.std.proofs.Common.{rules, arith, ◌+◌, ◌-◌, ◌++◌, length, take, sym, ap, ◌∙◌, subst, le_refl}
use Rattle.std.proofs.lemmas.Slice.{take-put_mid_below}
use Rattle.std.specs.Io.KnownBytes.{Consumes}
use Rattle.std.proofs.KnownBytes.{Consumes-trans}
use borrow.Rule.Slice.PartMut.{put_mid}
use Rattle.program_input.proofs.Taken.{take_split, slice_range-put_mid}
use Rattle.program_input.proofs.read_to.Goals as goal

pub loop-bytes-preserved : goal.loop-bytes-preserved
loop-bytes-preserved g c =
    let from = c.loop-bytes.bytes in
    let room = length c.loop-bytes.buffer - from in
    let within = c.loop-bytes.invariant.1 in
    let part = slice_range-put_mid from room c.in-Ok.more c.loop-bytes.buffer c.read.new.buf within c.in-Ok.ensures.bound.0 in
    let joined = take_split from (from + c.in-Ok.more) c.loop-bytes.buffer
    (put_mid from room c.loop-bytes.buffer c.read.new.buf)
    (omega arith)
    (take-put_mid_below _ _ _ _ _ (le_refl _) within) in (
      search rules,
      search rules,
      subst (Consumes _ _) (ap (λ l. take from c.loop-bytes.buffer ++ l) (sym part) ∙ joined)
          (Consumes-trans _ _ _ _ _ c.loop-bytes.invariant.2 c.in-Ok.ensures.bytes.0),
    )

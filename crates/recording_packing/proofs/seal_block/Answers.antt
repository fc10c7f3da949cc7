-- `recording_packing::seal_block` meets its contract: what stands before the records, then zeros up to the check, then the check. Assumes nothing.
use mathlib.Core.Path.{◌≡◌, refl, sym, ap, ◌∙◌}
use mathlib.Core.List.{◌++◌}
use Prim.Native.Nat.{◌+◌, ◌-◌, ◌*◌}
use native.Mathlib.Omega.{arith}
use lib.ListN.{length, set, take, drop, replicate, length-set, length-take}
use lib.Seq.{take_at, length-take-le, paste, paste-zero}
use Rattle.recording_crc16.specs.Remainder.{check}
use Rattle.recording_packing.specs.Definition.{body, packed_block}
use Rattle.recording_packing.proofs.Blocks.{length_body, kept_written, body_written, seal_written}
use Rattle.recording_packing.proofs.seal_block.Goals as goal

pub loop-i-init : goal.loop-i-init
loop-i-init c =
    let a = c.args in
    let h = set (set (set (set a.block.now 0 a.k) 1 0) 2 a.count) 3 0 in
    let end = 4 + 64 * a.count in
    let l : length h ≡ 512 = simp length-set (omega arith) in (
      omega arith,
      omega arith,
      refl,
      omega arith,
      l,
      l,
      paste-zero h end (replicate (510 - end) 0)
          ∙ ap (paste h end (replicate (510 - end) 0)) (let q : 0 ≡ 4 - end = omega arith in q),
    )

pub loop-i-preserved : goal.loop-i-preserved
loop-i-preserved c =
    let l = c.loop-i in
    let end = 4 + 64 * c.args.count in (
      omega arith,
      omega arith,
      refl,
      omega arith,
      l.invariant.4,
      simp length-set l.invariant.5,
      kept_written _ l.block end (510 - end) l.i (omega arith)
          (omega arith) l.invariant.6 c.kept.ensures,
    )

pub slice_bounds-check-end-2 : goal.slice_bounds-check-end-2
slice_bounds-check-end-2 c = sym (length-take-le 510 c.loop-i.block (omega arith))

pub shape_of-block : goal.shape_of-block
shape_of-block c = simp length-set (omega arith)

pub returns : goal.returns
unfolding packed_block
returns c =
    let l = c.loop-i in
    let a = c.args in
    let bytes = a.block.now in
    let b = body a.k (take (64 * a.count) (drop 4 bytes)) in
    let long : length b ≡ 510 = length_body a.k (take (64 * a.count) (drop 4 bytes)) (rw length-take (omega arith)) in
    let z : l.i ≡ 510 = omega arith in
    let e : l.block ≡ b ++ drop 510 bytes = body_written a.k a.count bytes l.block (omega arith) (omega arith) (omega arith) (rw z at l.invariant.6) in
    seal_written b bytes l.block c.check-q.result long (omega arith) e
    (c.check-q.ensures ∙ ap check (ap (take 510) e ∙ take_at b (drop 510 bytes) 510 long))

pub overflow_cast-block : goal.overflow_cast-block
overflow_cast-block c = omega arith

pub bounds-block-0 : goal.bounds-block-0
bounds-block-0 c = omega arith

pub bounds-block-1 : goal.bounds-block-1
bounds-block-1 c = simp length-set (omega arith)

pub overflow_cast-block-2 : goal.overflow_cast-block-2
overflow_cast-block-2 c = omega arith

pub bounds-block-2 : goal.bounds-block-2
bounds-block-2 c = simp length-set (omega arith)

pub bounds-block-3 : goal.bounds-block-3
bounds-block-3 c = simp length-set (omega arith)

pub overflow_mul-end : goal.overflow_mul-end
overflow_mul-end c = omega arith

pub overflow_add-end : goal.overflow_add-end
overflow_add-end c = omega arith

pub bounds-block-i : goal.bounds-block-i
bounds-block-i c = omega arith

pub bounds-block-i-in-loop-i : goal.bounds-block-i-in-loop-i
bounds-block-i-in-loop-i c = omega arith

pub overflow_step-i : goal.overflow_step-i
overflow_step-i c = omega arith

pub loop-i-smaller : goal.loop-i-smaller
loop-i-smaller c = omega arith

pub slice_bounds-check-end : goal.slice_bounds-check-end
slice_bounds-check-end c = omega arith

pub overflow_cast-block-3 : goal.overflow_cast-block-3
overflow_cast-block-3 c = omega arith

pub bounds-block-510 : goal.bounds-block-510
bounds-block-510 c = omega arith

pub overflow_cast-block-4 : goal.overflow_cast-block-4
overflow_cast-block-4 c = omega arith

pub bounds-block-511 : goal.bounds-block-511
bounds-block-511 c = simp length-set (omega arith)

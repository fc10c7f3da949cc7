-- `recording_packing::seal_blocks` meets its contract. Assumes nothing.
use mathlib.Core.Path.{◌≡◌, refl, ap, ap₂, ◌∙◌}
use mathlib.Core.List.{◌++◌}
use Prim.Native.Nat.{ℕ, ◌+◌, ◌-◌, ◌*◌}
use native.Mathlib.Omega.{arith}
use lib.ListN.{length, drop, length-drop}
use lib.Seq.{length-take-le}
use borrow.Rule.Slice.PartMut.{same_len_mid}
use Rattle.recording_packing.specs.Definition.{blocks_for, packed_block, packed_from, packed, standing}
use Rattle.recording_packing.proofs.Blocks.{block_put}
use Rattle.recording_packing.proofs.Standing.{block_records, length_standing}
use Rattle.recording_packing.proofs.seal_blocks.Goals as goal

pub loop-k-init : goal.loop-k-init
unfolding packed_from
loop-k-init c = (refl, omega arith, refl, refl)

pub seal_block-requires : goal.seal_block-requires
seal_block-requires c =
    let l = c.loop-k in record {
      block_len = length-take-le (512 * l.k + 512 - 512 * l.k) (drop (512 * l.k) l.out) (simp length-drop (omega arith))
          ∙ (let e : 512 * l.k + 512 - 512 * l.k ≡ 512 = omega arith in e);
      k_bound = omega arith;
      count_bound = omega (arith, c.min-count.ensures);
    }

pub loop-k-preserved : goal.loop-k-preserved
loop-k-preserved c =
    let l = c.loop-k in
    let a = c.args in
    let out₀ = a.out.now in
    let e = block_records a.n l.k out₀ (omega arith) (omega arith) (standing a.n out₀) l.out l.invariant.3 c.min-count.ensures in (
      refl,
      omega arith,
      same_len_mid (512 * l.k) (512 * l.k + 512 - 512 * l.k) l.out c.seal_block.new.block c.seal_block.auto.block ∙ l.invariant.2,
      block_put l.k (standing a.n out₀) l.out out₀ c.seal_block.new.block l.invariant.3 (c.seal_block.ensures ∙ ap (packed_block l.k) e),
    )

pub shape_of-out : goal.shape_of-out
shape_of-out c = c.loop-k.invariant.2

pub returns : goal.returns
unfolding packed
returns c =
    let a = c.args in
    let out₀ = a.out.now in
    let rs = standing a.n out₀ in
    let long = length_standing a.n out₀ (omega arith) in
    c.loop-k.invariant.3
    ∙ ap₂ (λ (i j : ℕ). packed_from i 0 rs ++ drop (512 * j) out₀) (let e : c.loop-k.k ≡ blocks_for (length rs) = omega arith in e)
    (let e : c.loop-k.k ≡ blocks_for (64 * a.n) = omega arith in e)

pub overflow_add-blocks : goal.overflow_add-blocks
overflow_add-blocks c = omega arith

pub overflow_mul-start : goal.overflow_mul-start
overflow_mul-start c = omega arith

pub overflow_add-end : goal.overflow_add-end
overflow_add-end c = omega arith

pub overflow_mul-k : goal.overflow_mul-k
overflow_mul-k c = omega arith

pub overflow_sub-n : goal.overflow_sub-n
overflow_sub-n c = omega arith

pub slice_bounds-seal_block-count : goal.slice_bounds-seal_block-count
slice_bounds-seal_block-count c = omega arith

pub slice_bounds-seal_block-start : goal.slice_bounds-seal_block-start
slice_bounds-seal_block-start c = omega arith

pub slice_bounds-seal_block-end : goal.slice_bounds-seal_block-end
slice_bounds-seal_block-end c = omega arith

pub overflow_step-k : goal.overflow_step-k
overflow_step-k c = omega arith

pub loop-k-smaller : goal.loop-k-smaller
loop-k-smaller c = omega arith

-- `simd::V128::i16x8_bitmask` meets its contract: a loop from the top lane down. Assumes nothing.
use borrow.Author.Rules.{rules}
use native.Mathlib.Omega.{arith}
use Rattle.standard.proofs.Reduce.{mask_start, mask_turn, mask_fits, mask_end}
use Rattle.simd.proofs.V128.i16x8_bitmask.Goals as goal

pub loop-i-init : goal.loop-i-init
loop-i-init c = (search rules, mask_start 16 _ c.lanes16-a.ensures)

pub overflow_mul-mask : goal.overflow_mul-mask
overflow_mul-mask c = omega (arith, mask_fits 16 _ c.lanes16-a.ensures c.loop-i.i (search rules) c.loop-i.invariant.1)

pub overflow_add-mask : goal.overflow_add-mask
overflow_add-mask c = omega (
  arith,
  mask_fits 16 _ c.lanes16-a.ensures c.loop-i.i (search rules)
      c.loop-i.invariant.1,
)

pub loop-i-preserved : goal.loop-i-preserved
loop-i-preserved c = (
  search rules,
  mask_turn 16 _ c.lanes16-a.ensures c.loop-i.i (search rules) (search rules)
      c.loop-i.invariant.1 c.sign.ensures,
)

pub returns : goal.returns
returns c = mask_end 16 _ c.lanes16-a.ensures c.loop-i.i (search rules) c.loop-i.invariant.1

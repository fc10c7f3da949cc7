-- `simd::V128::v128_any_true` meets its contract. Assumes nothing.
use Rattle.standard.proofs.Reduce.{any_below, any_above}
use Rattle.simd.proofs.V128.v128_any_true.Goals as goal

pub returns-then-self-eq0 : goal.returns-then-self-eq0
returns-then-self-eq0 c = any_below _ _ c.if-self-eq0.true

pub returns-else-self-eq0 : goal.returns-else-self-eq0
returns-else-self-eq0 c = any_above _ _ c.if-self-eq0.false

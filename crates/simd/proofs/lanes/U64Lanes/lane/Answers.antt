-- `<u64 as Lanes>::lane` meets its contract. Assumes nothing.
use borrow.Author.Rules.{rules}
use native.Mathlib.Omega.{arith}
use Rattle.standard.proofs.Access.{extract_low, extract_high, extract_past}
use Rattle.simd.proofs.lanes.U64Lanes.lane.Goals as goal

pub returns-then-lane-eq0 : goal.returns-then-lane-eq0
returns-then-lane-eq0 c = rw c.if-lane-eq0.true (extract_low _ _ (search rules) (search rules))

pub returns-then-lane-eq1 : goal.returns-then-lane-eq1
returns-then-lane-eq1 c = rw c.if-lane-eq1.true (extract_high _ _ (search rules) (search rules))

pub returns-else-lane-eq1 : goal.returns-else-lane-eq1
returns-else-lane-eq1 c = extract_past 64 _ _ (omega arith)

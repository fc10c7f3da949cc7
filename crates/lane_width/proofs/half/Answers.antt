-- `lane_width::half` meets its contract. Assumes nothing.
use Rattle.std.proofs.Common.{rules}
use Rattle.standard.proofs.Widths.{parts}
use Rattle.lane_width.proofs.half.Goals as goal

pub returns-then-high : goal.returns-then-high
returns-then-high c = λ w n half whole. rw c.if-high.true (parts w n half whole c.args.lo c.args.hi (search rules)).1

pub returns-else-high : goal.returns-else-high
returns-else-high c = λ w n half whole. rw c.if-high.false (parts w n half whole c.args.lo c.args.hi (search rules)).0

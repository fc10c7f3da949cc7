-- `lane_float_parts::lanes` meets its contract. Assumes nothing.
use borrow.Author.Rules.{rules}
use Rattle.lane_float_parts.proofs.Front.{first}
use Rattle.lane_float_parts.proofs.lanes.Goals as goal

pub returns : goal.returns
returns c = first 4 c.args.s (search rules)

-- `lanes::answer` meets its contract. Assumes nothing.
use Rattle.std.proofs.Common.{rules}
use Rattle.program_digits.proofs.Puts.{filled}
use Rattle.program_listing.specs.Listing.{lanes_text}
use Rattle.lanes.proofs.Lengths.{lanes_within}
use Rattle.lanes.proofs.answer.Goals as goal

pub returns : goal.returns
unfolding lanes_text
returns c =
    let ran = rw c.zero.ensures at c.run-ending.ensures in
    filled (lanes_within c.args.list.now) (search rules)
    (rw (← ran, ← c.refused_by.ensures) c.put_listing.ensures)

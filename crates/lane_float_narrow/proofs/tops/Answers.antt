-- `lane_float_narrow::tops` meets its contract. Assumes nothing.
use mathlib.Core.Path.{ap}
use mathlib.Core.List.{map}
use Rattle.standard.proofs.Halves.{all_elements}
use borrow.Author.Rules.{rules}
use Rattle.lane_float_narrow.proofs.tops.Goals as goal

pub returns : goal.returns
returns c =
    rw (c.top.ensures, c.top-2.ensures, c.top-3.ensures, c.top-4.ensures)
    (ap (map _) (all_elements c.args.a 4 (search rules)))

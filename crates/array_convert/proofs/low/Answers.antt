-- `array_convert::low` meets its contract: the first two of four lanes. Assumes nothing.
use mathlib.Core.Path.{ap}
use mathlib.Core.List.{map}
use Rattle.standard.specs.Lanes.{low_half}
use Rattle.standard.proofs.Halves.{all_elements}
use borrow.Author.Rules.{rules}
use Rattle.array_convert.proofs.low.Goals as goal

pub returns : goal.returns
returns g c = λ h e. rw (e _ _ c.f-high.ensures, e _ _ c.f.ensures) (ap (map h) (ap low_half (all_elements c.args.a 4 (search rules))))

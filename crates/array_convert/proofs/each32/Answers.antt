-- `array_convert::each32` meets its contract: each lane by its function. Assumes nothing.
use borrow.Author.Rules.{rules}
use mathlib.Core.Path.{ap}
use mathlib.Core.List.{map}
use Rattle.standard.proofs.Halves.{all_elements}
use Rattle.array_convert.proofs.each32.Goals as goal

pub returns : goal.returns
returns g c = λ h e.
    rw (e _ _ c.f.ensures, e _ _ c.f-2.ensures, e _ _ c.f-3.ensures, e _ _ c.f-4.ensures) (ap (map h) (all_elements c.args.a 4 (search rules)))

-- `link_scan::start` meets its contract. Assumes nothing.
use mathlib.Core.Path.{sym, subst}
use mathlib.Core.List.{[]}
use Rattle.capture_history.specs.State.{Stands}
use Rattle.capture_history.specs.declared.Scan.{Scan}
use Rattle.link_scan.proofs.start.Goals as goal

pub returns : goal.returns
returns c = λ L window h. subst (λ (z : Scan). Stands L [] window z) (sym c.handed_out.ensures) (c.start.ensures L window h)

-- `link_scan::end` meets its contract. Assumes nothing.
use mathlib.Core.Path.{sym, subst, ◌∙◌}
use Rattle.capture_history.specs.State.{Stands}
use Rattle.capture_history.specs.declared.Scan.{Scan}
use Rattle.link_scan.proofs.end.Goals as goal

pub returns : goal.returns
returns c = λ m X window s e.
    c.code.ensures ∙ c.end.ensures m X window (subst (λ (z : Scan). Stands c.args.length X window z) (sym c.taken_in.ensures) s) e

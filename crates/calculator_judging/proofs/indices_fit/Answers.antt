-- `calculator_judging::indices_fit` meets its contract: the test, either way. Assumes nothing.
use mathlib.Core.Path.{sym, ap, ◌∙◌}
use mathlib.Core.Bool.{Bool}
use Rattle.standard.specs.Refusal.{legal}
use Rattle.calculator_rules.specs.Definition.{unless}
use Rattle.calculator_judging.proofs.indices_fit.Goals as goal

pub returns-then-legal : goal.returns-then-legal
returns-then-legal c =
    ap (λ (t : Bool). unless t 5 0) (sym c.if-legal.true ∙ c.legal.ensures ∙ ap legal c.indices.ensures)

pub returns-else-legal : goal.returns-else-legal
returns-else-legal c =
    ap (λ (t : Bool). unless t 5 0) (sym c.if-legal.false ∙ c.legal.ensures ∙ ap legal c.indices.ensures)

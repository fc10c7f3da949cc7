-- `calculator::run::steps` meets its contract: what is left of the run from the state that is left is the run. Assumes nothing.
use mathlib.Core.Path.{◌≡◌}
use Prim.Native.Nat.{◌*◌, ◌-◌, ◌≤◌}
use lib.ListN.{drop}
use Rattle.calculator_rules.specs.Definition.{steps}
use Rattle.calculator_state.specs.State.{held}
use Rattle.calculator.proofs.Runs.{rest}
use Rattle.calculator.proofs.run.steps.Given as goal

abbrev pub invariant-loop-at : goal.invariant-loop-at
invariant-loop-at l =
    (l.place ≤ l.at) × (l.at ≤ l.end) × (rest l.n l.place l.limit l.list l.at (held l.w l.writers l.scalar)
    ≡ steps (l.n - l.place) l.limit l.place (drop (32 * l.place) l.list) (held l.initial.w l.initial.writers l.initial.scalar))

abbrev pub decreases-loop-at : goal.decreases-loop-at
decreases-loop-at l = l.end - l.at

-- What a call of `run` that is paused moves on by, and how much any call does. Assumes nothing.
use mathlib.Core.Path.{◌≡◌, ap, sym, ◌∙◌}
use mathlib.Core.List.{List}
use Prim.Native.Nat.{ℕ, ◌-◌, ◌/◌, ◌≤◌}
use native.Mathlib.Omega.{arith}
use lib.ListN.{length}
use Rattle.calculator_rules.specs.Definition as definition
use Rattle.calculator_rules.specs.Definition.{run}
use Rattle.calculator_rules.proofs.Pauses.{At, moves_on, never_above}
use Rattle.lease.proofs.Leasing.{few_steps}
use Rattle.calculator_state.specs.State.{machine}
use Rattle.calculator_limits.specs.Outcome.{outcome_of}
use Rattle.calculator.specs.Run.{ending_of}
use Rattle.calculator_limits.specs.declared.Outcome.{Outcome}
use Rattle.calculator.specs.declared.run.Ending.{Ending}
use Rattle.calculator_state.specs.declared.State.{State}

module _ (list : List ℕ) (place limit : ℕ) (state : State) (r : Ending) (promise : ending_of r ≡ run list place limit (machine state)) where
  same : (run list place limit (machine state)).done ≡ r.done
  same = ap (λ (x : definition.Ending). x.done) (sym promise)

  pub few : r.done ≤ limit
  few = omega (arith, never_above list place limit (machine state), same)

  pub moved : (q : ℕ) → r.outcome ≡ Outcome.Paused q → At (length list / 32 - place) limit place q r.done
  moved q e =
      let m = moves_on list place limit (machine state) q (ap (λ (x : definition.Ending). x.outcome) (sym promise) ∙ ap outcome_of e) in
      record { there = m.there; all_done = sym same ∙ m.all_done; more = m.more }

  pub below : (q : ℕ) → r.outcome ≡ Outcome.Paused q → length list / 32 ≤ 256
  below q e = few_steps list place limit q (machine state) (ap (λ (x : definition.Ending). x.outcome) (sym promise) ∙ ap outcome_of e)

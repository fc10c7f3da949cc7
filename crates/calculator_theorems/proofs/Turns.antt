-- Pausing (order 12), of the code's runs: those that follow each other, each taken up where the one before was paused, are together one run. Assumes nothing.
use mathlib.Core.Path.{◌≡◌, refl, ap, sym, ◌∙◌}
use mathlib.Core.List.{List, [], ◌∷◌}
use Prim.Native.Nat.{ℕ}
use Rattle.calculator_rules.specs.Definition as definition
use Rattle.calculator_rules.specs.Definition.{paused, counting, run}
use Rattle.calculator_rules.proofs.Pauses.{in_turns, Limit, Limits, ends_as_one}
use Rattle.calculator_state.specs.State.{machine}
use Rattle.calculator.specs.Run.{ending_of}
use Rattle.calculator_limits.specs.declared.Outcome.{Outcome}
use Rattle.calculator.specs.declared.run.Ending.{Ending}
use Rattle.calculator_state.specs.declared.State.{State}

abbrev pub WherePaused : Outcome → (ℕ → Type 0) → Type 0
WherePaused Outcome.Ended at = ⊥
WherePaused (Outcome.Paused place) at = at place
WherePaused (Outcome.Refused n) at = ⊥

-- Runs of the code, a limit for each: the first is what `run` promises of it; it was paused, and the others follow from there with the state that it left.
abbrev pub Follow : List ℕ → ℕ → State → ℕ → List ℕ → Ending → List Ending → Type 0
Follow list place state limit [] r [] = ending_of r ≡ run list place limit (machine state)
Follow list place state limit (l ∷ ls) r (q ∷ qs) =
    (ending_of r ≡ run list place limit (machine state)) × WherePaused r.outcome (λ at. Follow list at r.state l ls q qs)
Follow list place state limit [] r (q ∷ qs) = ⊥
Follow list place state limit (l ∷ ls) r [] = ⊥

-- what the last of them leaves, with the counts of all
abbrev pub total : Ending → List Ending → definition.Ending
total r [] = ending_of r
total r (q ∷ qs) = counting r.done (total q qs)

turns : (list : List ℕ) (place : ℕ) (state : State) (limit : ℕ) (ls : List ℕ) (r : Ending) (qs : List Ending) → Follow list place state limit ls r qs
    → total r qs ≡ in_turns list limit ls place (machine state)
unfolding in_turns
turns list place state limit [] r [] h = h
turns list place state limit (l ∷ ls) r (q ∷ qs) h =
    of r.outcome refl h.1 (λ at. turns list at r.state l ls q qs) where
      of : (o : Outcome) → r.outcome ≡ o → WherePaused o (λ at. Follow list at r.state l ls q qs)
          → ((at : ℕ) → Follow list at r.state l ls q qs → total q qs ≡ in_turns list l ls at (machine r.state)) → counting r.done (total q qs)
          ≡ in_turns list limit (l ∷ ls) place (machine state)
      of Outcome.Ended e w go = absurd w
      of (Outcome.Refused n) e w go = absurd w
      of (Outcome.Paused at) e w go = rw (← h.0, e) (ap (counting r.done) (go at w))
turns list place state limit [] r (q ∷ qs) h = absurd h
turns list place state limit (l ∷ ls) r [] h = absurd h

-- Runs under limits above 0, the last of which is not paused, leave what one run under limit 256 leaves, registers, numbers, scalar, refusal and all, the
-- counts added up.
pub turns_as_one : (list : List ℕ) (place : ℕ) (state : State) (limit : ℕ) (ls : List ℕ) (r : Ending) (qs : List Ending) → Limit limit → Limits ls
    → Follow list place state limit ls r qs → ((at : ℕ) → (total r qs).outcome ≡ paused at → ⊥)
    → (single : Ending) → ending_of single ≡ run list place 256 (machine state) → total r qs ≡ ending_of single
turns_as_one list place state limit ls r qs h w f unpaused single s =
    let t = turns list place state limit ls r qs f in
    t ∙ ends_as_one list ls limit place (machine state) h w (λ at g. unpaused at (ap (λ (x : definition.Ending). x.outcome) t ∙ g)) ∙ sym s

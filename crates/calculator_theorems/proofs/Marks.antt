-- Promise 3: runs of two lists that differ in marks alone, from any place under any limit, end alike. Assumes nothing.
use mathlib.Core.Path.{◌≡◌, ◌∙◌, sym}
use mathlib.Core.List.{List}
use Prim.Native.Nat.{ℕ, ◌%◌}
use native.Mathlib.Omega.{arith}
use lib.ListN.{length, get_or}
use Rattle.calculator_rules.specs.Definition.{Machine, run}
use Rattle.calculator_theorems.proofs.Unread.{unread_unseen}
use Rattle.calculator_state.specs.State.{machine}
use Rattle.calculator.specs.Run.{ending_of}
use Rattle.calculator.specs.declared.run.Ending as code
use Rattle.calculator_state.specs.declared.State.{State}

-- Lists of one length, with the same byte at each place but byte 7 of a step, the mark.
pub record MarksApart (a b : List ℕ) : Type 0 where
  pub long : length a ≡ length b
  pub same : (i : ℕ) → (i % 32 ≡ 7 → ⊥) → get_or a i 0 ≡ get_or b i 0

-- byte 7 is one of those that no step reads (`Unread`)
pub marks_unseen : (a b : List ℕ) → MarksApart a b → (place limit : ℕ) (m : Machine) → run a place limit m ≡ run b place limit m
marks_unseen a b apart = unread_unseen a b (record { long = apart.long; same = λ i n. apart.same i (λ e. n (omega arith) (omega arith)) })

-- the code's runs of the two lists, whose promises these are; the program `lanes` runs from place 0 under limit 256
pub runs_alike : (a b : List ℕ) → MarksApart a b → (place limit : ℕ) (state : State) (r q : code.Ending) → ending_of r ≡ run a place limit (machine state)
    → ending_of q ≡ run b place limit (machine state) → ending_of r ≡ ending_of q
runs_alike a b apart place limit state r q h k = h ∙ marks_unseen a b apart place limit (machine state) ∙ sym k

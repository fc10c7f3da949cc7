-- `marker::is_decided` meets its contract. Assumes nothing.
use mathlib.Core.List.{[]}
use mathlib.Core.Bool.{true, false≢true}
use mathlib.Core.Path.{◌≡◌, sym, ◌∙◌}
use Rattle.std.specs.Prelude.{Result, Ok, Err, is_err}
use Rattle.standard_refusal.specs.declared.Refusal.{Refusal}
use Rattle.standard_refusal.specs.Number.{code_of}
use Rattle.standard_refusal.proofs.Numbers.{not_0}
use Rattle.finder_windows.proofs.Theorems.{arguments_decide}
use Rattle.marker.proofs.is_decided.Goals as goal

refused : {A : Type 0} (r : Result A Refusal) → is_err r ≡ true → code_of r ≡ 0 → ⊥
refused (Ok x) e none = false≢true e
refused (Err why) e none = not_0 why none

pub returns : goal.returns
returns c e bytes =
    let given = c.args.task in
    let decided = arguments_decide given.marker given.tolerance given.length
    (λ none. refused c.barred.result (sym c.is_err.ensures.value ∙ e) (c.barred.ensures ∙ none)) in
    decided bytes ∙ sym (decided [])

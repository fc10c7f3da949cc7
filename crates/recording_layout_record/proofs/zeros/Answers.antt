-- `recording_layout_record::zeros` meets its contract. Assumes nothing.
use Rattle.std.proofs.Common.{◌≡◌, refl, ap, sym, ◌∙◌, rules, tests, ℕ, List, [], ◌∷◌, eqb, ◌&&◌}
use Rattle.std.specs.List.{list_all}
use Rattle.std.proofs.lemmas.Iterator.{YieldsList-from_slice}
use Rattle.std.proofs.lemmas.Iterator.Search.{all_from_yields_List}
use Rattle.recording_layout.specs.Definition.{all_zero}
use Rattle.recording_layout_record.proofs.zeros.Goals as goal

each_zero : (s : List ℕ) → list_all (λ x. eqb x 0) s ≡ all_zero s
unfolding all_zero
each_zero [] = refl
each_zero (x ∷ s) = rw (each_zero s)

pub returns : goal.returns
returns c =
    all_from_yields_List (λ x. eqb x 0) _ _ _ c.all.ensures.ran (YieldsList-from_slice c.args.bytes.now cc) (λ x b q k. search (rules, tests))
    ∙ each_zero c.args.bytes.now

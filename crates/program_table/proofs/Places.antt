-- The place of a word, one line of the table after the other. Assumes nothing.
use mathlib.Core.Path.{◌≡◌}
use mathlib.Core.List.{List, ◌∷◌}
use Prim.Native.Nat.{ℕ, suc}
use Rattle.program_words.specs.Cut.{same}
use Rattle.program_words.proofs.Pieces.{same_true, same_refl, is_false}
use Rattle.program_table.specs.Place.{place}

module _ (p w : List ℕ) (ps : List (List ℕ)) where
  pub place_here : p ≡ w → place (p ∷ ps) w ≡ 0
  unfolding place
  place_here e = rw (e, same_refl w)

  pub place_later : (p ≡ w → ⊥) → place (p ∷ ps) w ≡ suc (place ps w)
  unfolding place
  place_later h = rw (is_false (same p w) (λ e. h (same_true p w e)))

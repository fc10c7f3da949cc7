-- The place of a text in a list of texts, or the list's length.
use Rattle.std.specs.Prelude.{ℕ, suc, cond, List, [], ◌∷◌}
use Rattle.program_words.specs.Cut.{same}

unfoldable pub place : List (List ℕ) → List ℕ → ℕ
place [] w = 0
place (n ∷ ns) w = cond (same n w) 0 (suc (place ns w))

-- Worked examples of a definition: what it gives beside what is expected, in a table that one computed theorem holds. Assumes nothing.
use mathlib.Core.Path.{◌≡◌}
use mathlib.Core.List.{List, map}
use Prim.Native.Nat.{ℕ}

pub record Case : Type 0 where
  pub given : ℕ
  pub expected : ℕ

infix 4 ◌gives◌
abbrev pub ◌gives◌ : ℕ → ℕ → Case
n gives m = record { given = n; expected = m }

abbrev pub Hold : List Case → Type 0
Hold cases = map (λ (c : Case). c.given) cases ≡ map (λ (c : Case). c.expected) cases

-- A field taken, as the code takes it. Assumes nothing.
use mathlib.Core.Path.{◌≡◌, refl}
use mathlib.Core.List.{List}
use Prim.Native.Nat.{ℕ, zero, suc}
use lib.ListN.{drop, set}
use Rattle.program_words.specs.Cut.{solid}
use Rattle.program_words.specs.Stops.{Scanned}
use Rattle.program_fields.specs.Fields.{Field, found, nothing, find}
use Rattle.program_line.specs.Line.{going, wrong, field_expected, take_field, take_fields}

module _ (line : List ℕ) (f : Field) (place from at : ℕ) (s : List ℕ) (scan : Scanned solid line from at) where
  pub is_found : (n next : ℕ) → found n (drop next line) ≡ find f (drop at line)
      → going (drop next line) (set s place n) ≡ take_field f place (going (drop from line) s)
  unfolding take_field
  is_found n next h = rw (← scan.left, ← h)

  pub not_found : (x : ℕ) → x ≡ field_expected f → nothing ≡ find f (drop at line) → wrong x ≡ take_field f place (going (drop from line) s)
  unfolding take_field
  not_found x ex h = rw (← scan.left, ← h, ex)

-- no field is taken of a line that stands for no step
pub still_wrong : (f : Field) (n place x : ℕ) → take_fields f n place (wrong x) ≡ wrong x
unfolding take_field take_fields
still_wrong f zero place x = refl
still_wrong f (suc n) place x = still_wrong f n (suc place) x

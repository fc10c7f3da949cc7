-- How long the lines are at most. Assumes nothing.
use mathlib.Core.Path.{◌≡◌}
use mathlib.Core.Bool.{Bool, true, false, cond}
use mathlib.Core.List.{List, [], ◌++◌}
use Prim.Native.Nat.{ℕ, ◌≤◌}
use native.Mathlib.Omega.{arith}
use lib.Dec.{eqb}
use lib.ListN.{length, length-append}
use Rattle.finder_windows.specs.Definition as windows
use Rattle.program_digits.specs.Codes.{codes}
use Rattle.program_digits.specs.Digits.{hex_bytes}
use Rattle.program_digits.proofs.Laws.{decimal_length, length_hex_bytes}
use Rattle.program_reports.specs.Lines.{marker, fold}

pub marker_length : (a : windows.Answer) → length (marker a) ≤ 128
unfolding marker codes
marker_length (windows.found p d e) = simp length-append (omega (arith, decimal_length p, decimal_length d, decimal_length e, decimal_length 0))
marker_length (windows.refused n) = simp length-append (omega (arith, decimal_length n))

pub fold_length : (n : ℕ) (indices : List ℕ) → length indices ≡ 16 → length (fold n indices) ≤ 128
unfolding fold codes
fold_length n indices h = simp length-append (omega (arith, decimal_length n, line (eqb n 0)))
  where
    line : (t : Bool) → length (cond t (codes "indices " ++ (hex_bytes indices ++ codes "\n")) []) ≤ 48
    line true = simp length-append (omega (arith, length_hex_bytes indices))
    line false = omega arith

-- `program_digits::spell` meets its contract: each turn puts the last digit of what is left before the digits that stand there. Assumes nothing.
use Prim.Native.Nat.{◌≤◌, ◌-◌}
use mathlib.Core.Path.{◌≡◌}
use mathlib.Core.List.{◌++◌}
use lib.ListN.{length, drop}
use Rattle.program_digits.specs.Digits.{digits}
use Rattle.program_digits.proofs.spell.Given as goal

abbrev pub invariant-loop-i : goal.invariant-loop-i
invariant-loop-i l =
    (20 - l.k ≤ l.i) × (l.i ≤ 20) × (length l.out ≡ 20) × (digits l.base (l.i - (20 - l.k)) l.rest ++ drop l.i l.out ≡ digits l.base l.k l.n)

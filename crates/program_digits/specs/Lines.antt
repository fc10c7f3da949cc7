-- A name and a number, as the programs' lines have them.
use Rattle.std.specs.Prelude.{ℕ, List, ◌++◌}
use Prim.Native.String.{String}
use Rattle.program_digits.specs.Codes.{codes}
use Rattle.program_digits.specs.Digits.{decimal}

abbrev pub named : String → ℕ → List ℕ
named name n = codes name ++ decimal n

abbrev pub count_line : String → ℕ → List ℕ
count_line name n = codes name ++ (decimal n ++ codes "\n")

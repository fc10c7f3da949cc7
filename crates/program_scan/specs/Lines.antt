-- What the program `scan` writes: a line for each meeting, and the last line.
use Rattle.std.specs.Prelude.{ℕ, List, [], ◌∷◌, ◌++◌}
use Rattle.program_digits.specs.Codes.{codes}
use Rattle.program_digits.specs.Digits.{decimal}
use Rattle.capture_meetings.specs.Meetings.{Meeting, met}

-- "a line `position P distances A B` for each"
abbrev pub line : Meeting → List ℕ
line (met p d e) = codes "position " ++ (decimal p ++ (codes " distances " ++ (decimal d ++ (codes " " ++ (decimal e ++ codes "\n")))))

unfoldable pub lines : List Meeting → List ℕ
lines [] = []
lines (m ∷ ms) = line m ++ lines ms

-- "the last line `refused N`"
abbrev pub last_line : ℕ → List ℕ
last_line n = codes "refused " ++ (decimal n ++ codes "\n")

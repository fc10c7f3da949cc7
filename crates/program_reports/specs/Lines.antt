-- What `marker` and `fold` write, as lists of ASCII codes. The names and their order are document 02's; where it leaves the text open, docs/GUIDE.md's.
use Rattle.std.specs.Prelude.{ℕ, cond, List, [], ◌++◌, eqb}
use Rattle.finder_windows.specs.Definition as windows
use Rattle.program_digits.specs.Codes.{codes}
use Rattle.program_digits.specs.Digits.{hex_bytes}
use Rattle.program_digits.specs.Lines.{named, count_line}

-- `marker` (order 5): the position "with both distances", then that nothing was refused; or the number of the refusal
unfoldable pub marker : windows.Answer → List ℕ
marker (windows.found p d e) =
    count_line "position " p ++ (named "distances " d ++ (count_line " " e ++ count_line "refused " 0))
marker (windows.refused n) = count_line "refused " n

-- `fold` (order 13): the sixteen indices, the first first, and that nothing was refused; or the number of the refusal
abbrev pub indices_line : ℕ → List ℕ → List ℕ
indices_line refused indices = cond (eqb refused 0) (codes "indices " ++ (hex_bytes indices ++ codes "\n")) []

unfoldable pub fold : ℕ → List ℕ → List ℕ
fold refused indices = indices_line refused indices ++ count_line "refused " refused

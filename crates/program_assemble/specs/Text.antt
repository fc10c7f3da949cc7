-- What a whole text stands for, and what the program `assemble` writes.
use Rattle.std.specs.Prelude.{ℕ, zero, suc, cond, List, [], ◌∷◌, ◌++◌, map, eqb, leb, length, get_or, take}
use Prim.Native.String.{String}
use Rattle.program_digits.specs.Codes.{codes}
use Rattle.program_digits.specs.Digits.{decimal}
use Rattle.program_words.specs.Cut.{newline, pieces}
use Rattle.program_answer.specs.Output.{Answer, output_alone, said_alone}
use Rattle.program_line.specs.Line.{Line, empty, step, refused, line}

-- The bytes of the steps of a text's lines, up to the first line that stands for none; that line's number, "counted from 1", and why. 0 and 0 where there is no
-- such line.
pub record Assembled : Type 0 where
  pub steps : List ℕ
  pub line : ℕ
  pub reason : ℕ

abbrev pub fine : List ℕ → Assembled
fine s = record { steps = s; line = 0; reason = 0 }

abbrev pub wrong_line : ℕ → ℕ → Assembled
wrong_line k r = record { steps = []; line = k; reason = r }

abbrev pub after_them : List ℕ → Assembled → Assembled
after_them s a = record { steps = s ++ a.steps; line = a.line; reason = a.reason }

-- "above 256 steps"
abbrev pub too_many : ℕ
too_many = 7

-- a step, with room for so many
abbrev pub placed : ℕ → ℕ → List ℕ → (ℕ → Assembled) → Assembled
placed zero k s go = wrong_line k too_many
placed (suc room) k s go = after_them s (go room)

abbrev pub next_line : Line → ℕ → ℕ → (ℕ → Assembled) → Assembled
next_line empty room k go = go room
next_line (step s) room k go = placed room k s go
next_line (refused r) room k go = wrong_line k r

-- "One step a line": the lines from line k on
unfoldable pub of_lines : ℕ → ℕ → List (List ℕ) → Assembled
of_lines room k [] = fine []
of_lines room k (l ∷ ls) = next_line (line l) room k (λ left. of_lines left (suc k) ls)

unfoldable pub assembled : List ℕ → Assembled
assembled text = of_lines 256 1 (pieces newline text)

-- What is said of each reason.
unfoldable pub reasons : List String
reasons =
    "" ∷ "no such name" ∷ "register expected, r0 to r15" ∷ "lane expected, 0 to 255" ∷ "byte expected, two hex digits" ∷
    "mark expected, 1 to 255" ∷ "too much on the line" ∷ "above 256 steps" ∷ "above 65536 bytes" ∷ []

unfoldable pub why : ℕ → List ℕ
unfolding reasons codes
why r = get_or (map codes reasons) r []

-- "one line on standard error, `assemble: line N: REASON`"
unfoldable pub complaint : ℕ → ℕ → List ℕ
unfolding codes
complaint k r = (codes "assemble: line " ++ decimal k) ++ (codes ": " ++ (why r ++ codes "\n"))

-- "a list; or nothing on standard output, .. and one line on standard error". A text above 65,536 bytes is not read to its end, so the line with the first byte
-- above them is named.
abbrev pub answered : Assembled → Answer
answered a = cond (eqb a.reason 0) (output_alone a.steps) (said_alone (complaint a.line a.reason))

abbrev pub too_long : ℕ
too_long = 8

unfoldable pub told : List ℕ → Answer
told text =
    cond (leb (length text) 65536) (answered (assembled text))
    (said_alone (complaint (length (pieces newline (take 65536 text))) too_long))

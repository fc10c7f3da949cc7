-- The text that is written for a step list, and what the program `disassemble` writes.
use Rattle.std.specs.Prelude.{ℕ, zero, suc, ◌-◌, ◌/◌, cond, List, [], ◌++◌, eqb, length, take, drop, replicate}
use Rattle.calculator_rules.specs.Definition.{list_refusal}
use Rattle.program_digits.specs.Codes.{codes}
use Rattle.program_digits.specs.Digits.{decimal}
use Rattle.program_answer.specs.Output.{Answer, output_alone, said_alone}
use Rattle.program_step.specs.Shown.{shown}

-- A step on a line, and its number in "a column of comments", which begins behind 64 characters, or behind the step where that is longer.
abbrev pub padded : List ℕ → List ℕ
padded l = l ++ replicate (64 - length l) 32

unfoldable pub numbered : ℕ → List ℕ → List ℕ
unfolding codes
numbered k s = padded (shown s) ++ (codes " # " ++ (decimal k ++ codes "\n"))

-- so many steps, numbered from k on
unfoldable pub lines : ℕ → ℕ → List ℕ → List ℕ
lines k zero list = []
lines k (suc n) list = numbered k (take 32 list) ++ lines (suc k) n (drop 32 list)

-- a list of whole steps
abbrev pub disassembled : List ℕ → List ℕ
disassembled list = lines 1 (length list / 32) list

-- "refused with 1 as `lanes` refuses": of a whole list, from its start on and under no lower limit than 256
abbrev pub list_refused : List ℕ → ℕ
list_refused list = list_refusal (length list) 0 256

unfoldable pub told : List ℕ → Answer
unfolding codes
told list =
    cond (eqb (list_refused list) 0) (output_alone (disassembled list))
    (said_alone (codes "refused " ++ (decimal (list_refused list) ++ codes "\n")))

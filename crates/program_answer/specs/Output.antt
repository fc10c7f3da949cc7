-- What a program writes to standard output and to standard error.
use Rattle.std.specs.Prelude.{ℕ, List, []}

pub record Answer : Type 0 where
  pub output : List ℕ
  pub said : List ℕ

-- only the one, or only the other
abbrev pub output_alone : List ℕ → Answer
output_alone bytes = record { output = bytes; said = [] }

abbrev pub said_alone : List ℕ → Answer
said_alone bytes = record { output = []; said = bytes }

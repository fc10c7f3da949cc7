-- An answer put into one of two lent lists, from its start: how many bytes go to standard output, or how many to standard error.
use Rattle.std.specs.Prelude.{ℕ, ◌≡◌, Bool, true, false, Result, Ok, Err, List, [], ◌∷◌}
use Rattle.program_digits.specs.Put.{Filled}
use Rattle.program_answer.specs.Output.{Answer}

abbrev pub output_of : Result ℕ ℕ → ℕ
output_of (Ok n) = n
output_of (Err n) = 0

abbrev pub said_of : Result ℕ ℕ → ℕ
said_of (Ok n) = 0
said_of (Err n) = n

abbrev pub is_given : Result ℕ ℕ → Bool
is_given (Ok n) = true
is_given (Err n) = false

abbrev pub is_silent : List ℕ → Bool
is_silent [] = true
is_silent (x ∷ xs) = false

-- `status`: where neither list gets a byte, the case is told, too
pub record Tells (a : Answer) (out err out-after err-after : List ℕ) (r : Result ℕ ℕ) : Type 0 where
  pub output : Filled out a.output out-after (output_of r)
  pub said : Filled err a.said err-after (said_of r)
  pub status : is_given r ≡ is_silent a.said

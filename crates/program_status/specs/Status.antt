-- What the text that a program wrote says of its answer.
use Rattle.std.specs.Prelude.{ℕ, ◌-◌, ◌≡◌, List, ◌⊎◌, length, drop}
use Rattle.program_digits.specs.Codes.{codes}

-- Whether the last characters of a text are these.
abbrev pub Ends : List ℕ → List ℕ → Type 0
Ends text end = drop (length text - length end) text ≡ end

-- It ends by saying that nothing was refused, or that a recording agrees.
abbrev pub Good : List ℕ → Type 0
Good text = Ends text (codes "refused 0\n") ⊎ Ends text (codes "agrees\n")

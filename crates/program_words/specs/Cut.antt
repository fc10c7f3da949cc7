-- A text, as a list of ASCII codes, cut into lines, and a line into words, blanks and a comment.
use Rattle.std.specs.Prelude.{ℕ, Bool, true, false, not, cond, ◌&&◌, ◌||◌, List, [], ◌∷◌, eqb}

-- a line's end
abbrev pub newline : ℕ → Bool
newline c = eqb c 10

-- a space, a tab, or the carriage return that some systems put before a line's end
abbrev pub blank : ℕ → Bool
blank c = eqb c 32 || (eqb c 9 || eqb c 13)

abbrev pub solid : ℕ → Bool
solid c = not (blank c)

-- the characters before the first that stops
unfoldable pub before : (ℕ → Bool) → List ℕ → List ℕ
before stop [] = []
before stop (c ∷ cs) = cond (stop c) [] (c ∷ before stop cs)

-- the characters from the first on that stops
unfoldable pub onward : (ℕ → Bool) → List ℕ → List ℕ
onward stop [] = []
onward stop (c ∷ cs) = cond (stop c) (c ∷ cs) (onward stop cs)

-- what follows the blanks; the word that stands first; what follows it
abbrev pub skip : List ℕ → List ℕ
skip cs = onward solid cs

abbrev pub word : List ℕ → List ℕ
word cs = before blank cs

abbrev pub after : List ℕ → List ℕ
after cs = onward blank cs

-- whether a comment begins here, "from `#` or `;;` to the line's end": one `;` begins none
abbrev pub comment : List ℕ → Bool
comment [] = false
comment (c ∷ []) = eqb c 35
comment (c ∷ d ∷ cs) = eqb c 35 || (eqb c 59 && eqb d 59)

-- a line without its comment
unfoldable pub statement : List ℕ → List ℕ
statement [] = []
statement (c ∷ cs) = cond (comment (c ∷ cs)) [] (c ∷ statement cs)

-- the pieces between the characters that stop: one more than there are such characters
abbrev pub onto : ℕ → List (List ℕ) → List (List ℕ)
onto c [] = (c ∷ []) ∷ []
onto c (p ∷ ps) = (c ∷ p) ∷ ps

unfoldable pub pieces : (ℕ → Bool) → List ℕ → List (List ℕ)
pieces stop [] = [] ∷ []
pieces stop (c ∷ cs) = cond (stop c) ([] ∷ pieces stop cs) (onto c (pieces stop cs))

-- whether two texts are the same
abbrev pub same : List ℕ → List ℕ → Bool
same [] [] = true
same [] (y ∷ ys) = false
same (x ∷ xs) [] = false
same (x ∷ xs) (y ∷ ys) = cond (eqb x y) (same xs ys) false

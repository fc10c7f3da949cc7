-- The arguments of programs, as lists of ASCII codes: decimal digits alone, at least one, a value below 2^32; or eight hex digits, of either case.
use Rattle.std.specs.Prelude.{ℕ, ◌+◌, ◌-◌, ◌*◌, ◌^◌, cond, ◌&&◌, List, [], ◌∷◌, ltb, leb, eqb, length}

-- A number, or that the argument is none.
pub data Numeral : Type 0 where
  number : ℕ → Numeral
  none : Numeral

-- The value of 0 to 9, A to F and a to f; 16 for any other character.
abbrev pub digit : ℕ → ℕ
digit c =
    cond (leb 48 c && leb c 57) (c - 48)
    (cond (leb 65 c && leb c 70) (c - 55)
    (cond (leb 97 c && leb c 102) (c - 87) 16))

-- The number whose digits in a base these characters are, written behind the digits of a number that is already read.
abbrev pub numeral : ℕ → ℕ → List ℕ → Numeral
numeral base read [] = number read
numeral base read (c ∷ cs) = cond (ltb (digit c) base) (numeral base (read * base + digit c) cs) none

-- "a value below 2^32"
abbrev pub fitting : Numeral → Numeral
fitting (number n) = cond (ltb n (2 ^ 32)) (number n) none
fitting none = none

abbrev pub decimal : List ℕ → Numeral
decimal cs = cond (eqb (length cs) 0) none (fitting (numeral 10 0 cs))

abbrev pub eight_hex_digits : List ℕ → Numeral
eight_hex_digits cs = cond (eqb (length cs) 8) (fitting (numeral 16 0 cs)) none

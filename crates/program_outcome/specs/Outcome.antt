-- What a step of a record left (document 02, order 8) as a line, in ASCII codes.
use Rattle.std.specs.Prelude.{ℕ, cond, List, [], ◌∷◌, ◌++◌, eqb, get_or}
use Rattle.calculator_rules.specs.Definition.{bytes}
use Rattle.recording_fields.specs.Definition.{wide}
use Rattle.program_digits.specs.Codes.{codes}
use Rattle.program_digits.specs.Digits.{hex_bytes}
use Rattle.program_digits.specs.Lines.{count_line}

-- "scalar kind after it (0 i32, 1 i64, 2 f32, 3 f64, no other)"
abbrev pub kind_name : ℕ → List ℕ
kind_name k = cond (eqb k 0) (codes " s i32 ") (cond (eqb k 1) (codes " s i64 ") (cond (eqb k 2) (codes " s f32 ") (codes " s f64 ")))

-- the scalar's bytes, which stand in the record's last eight, the highest first: "A 32-bit scalar fills the low four"
abbrev pub low_four : List ℕ → List ℕ
low_four r = get_or r 59 0 ∷ get_or r 58 0 ∷ get_or r 57 0 ∷ get_or r 56 0 ∷ []

abbrev pub high_four : List ℕ → List ℕ
high_four r = get_or r 63 0 ∷ get_or r 62 0 ∷ get_or r 61 0 ∷ get_or r 60 0 ∷ []

abbrev pub scalar_digits : List ℕ → List ℕ
scalar_digits r = cond (wide (get_or r 49 0)) (hex_bytes (high_four r) ++ hex_bytes (low_four r)) (hex_bytes (low_four r))

-- what a step left: "the 16-byte vector written (zeros if none), refusal number, scalar kind after it .., six zeros, scalar bits in 8 bytes"
unfoldable pub left_line : List ℕ → List ℕ
left_line r =
    codes "  vector "
    ++ (hex_bytes (bytes r 32 16) ++ (kind_name (get_or r 49 0) ++ (scalar_digits r ++ count_line " refused " (get_or r 48 0))))

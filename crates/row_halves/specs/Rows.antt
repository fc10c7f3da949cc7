-- Rows of vectors (document 02, order 6): "i8x16 add, exclusive-or and popcnt over a lent row of vectors, each kept as its pair of halves, written over the
-- first row". A vector is its number; a row of halves is read two halves at a time, the low one first.
use Rattle.std.specs.Prelude.{ℕ, zero, suc, ◌≡◌, ◌<◌, ◌+◌, ◌*◌, ◌/◌, ◌%◌, ◌^◌, cond, List, [], ◌∷◌, eqb}

-- The vectors of a row of halves. A last half that has no partner is none.
abbrev pub vectors : List ℕ → List ℕ
vectors [] = []
vectors (low ∷ []) = []
vectors (low ∷ high ∷ rest) = (low + 2 ^ 64 * high) ∷ vectors rest

-- The halves of a row of vectors.
abbrev pub halves : List ℕ → List ℕ
halves [] = []
halves (v ∷ vs) = v % 2 ^ 64 ∷ v / 2 ^ 64 ∷ halves vs

-- "12 when the two rows differ in length", of rows of n and m elements; 0 is no refusal.
abbrev pub refusal : ℕ → ℕ → ℕ
refusal n m = cond (eqb n m) 0 12

-- "or a row of halves is odd".
abbrev pub half_refusal : ℕ → ℕ → ℕ
half_refusal n m = cond (eqb (n % 2) 0) (refusal n m) 12

-- The first row afterwards, by the refusal's number: "nothing written" where there is one.
abbrev pub after : ℕ → List ℕ → List ℕ → List ℕ
after zero written before = written
after (suc n) written before = before

-- g does to each half of two vectors what f does to the vectors.
abbrev pub ByHalves : (ℕ → ℕ → ℕ) → (ℕ → ℕ → ℕ) → Type 0
ByHalves f g = (a b c d : ℕ) → a < 2 ^ 64 → c < 2 ^ 64 → g a c + 2 ^ 64 * g b d ≡ f (a + 2 ^ 64 * b) (c + 2 ^ 64 * d)

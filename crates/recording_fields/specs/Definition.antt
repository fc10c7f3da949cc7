-- A record of a field recording (document 02, order 8): "the 32-byte step", and what the step left, its trace.
use Rattle.std.specs.Prelude.{ℕ, suc, Bool, true, false, cond, ◌&&◌, ◌||◌, List, [], ◌∷◌, ◌++◌, length, drop, replicate, eqb}
use Rattle.standard.specs.Lanes.{digits}

-- The kinds of 64 bits among "0 i32, 1 i64, 2 f32, 3 f64".
abbrev pub wide : ℕ → Bool
wide k = eqb k 1 || eqb k 3

-- "scalar bits in 8 bytes. A 32-bit scalar fills the low four of the 8 bytes and the rest are zero." "Block number and scalar bits are little-endian."
abbrev pub scalar_bytes : ℕ → ℕ → List ℕ
scalar_bytes k b = cond (wide k) (digits 8 8 b) (digits 8 4 b ++ replicate 4 0)

-- "the 16-byte vector written (zeros if none), refusal number, scalar kind after it .., six zeros, scalar bits in 8 bytes"
unfoldable pub trace : ℕ → ℕ → ℕ → ℕ → List ℕ
trace v n k b = digits 8 16 v ++ (n ∷ k ∷ replicate 6 0) ++ scalar_bytes k b

unfoldable pub same : List ℕ → List ℕ → Bool
same [] [] = true
same [] (y ∷ ys) = false
same (x ∷ xs) [] = false
same (x ∷ xs) (y ∷ ys) = eqb x y && same xs ys

-- What a replay answers: ""agrees" exactly when every record is what the definition gives, else the first record that isn't, counted from 1"; or the number of
-- a refusal.
pub data Answer : Type 0 where
  agrees : Answer
  differs : ℕ → Answer
  refused : ℕ → Answer

-- Of the record at a place, counted from 0, beside the trace that the definition gives for its step.
abbrev pub compared : ℕ → List ℕ → List ℕ → Answer
compared place r t = cond (same (drop 32 r) t) agrees (differs (suc place))

-- A record that is written over 64 bytes; bytes of another number stay as they were, and so do all where the step is not 32 bytes.
abbrev pub recorded : List ℕ → List ℕ → List ℕ → List ℕ
recorded before s t = cond (eqb (length before) 64 && eqb (length s) 32) (s ++ t) before

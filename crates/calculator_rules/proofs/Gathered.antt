-- A part of a list, gathered a byte at a time. Assumes nothing.
use mathlib.Core.Path.{◌≡◌}
use mathlib.Core.List.{List, [], ◌∷◌, ◌++◌}
use Prim.Native.Nat.{ℕ, zero, suc, ◌+◌, ◌<◌}
use native.Mathlib.Nat.{add-zero, add-suc, suc-add}
use native.Mathlib.Numerals.{add-one}
use lib.ListN.{length, get_or, set, take}
use lib.Seq.{take-suc-set}
use Rattle.calculator_rules.specs.Definition.{bytes}

one_more : (s : List ℕ) (at n : ℕ) → bytes s at (suc n) ≡ bytes s at n ++ (get_or s (at + n) 0 ∷ [])
one_more s at zero = rw add-zero
one_more s at (suc n) = rw (one_more s (suc at) n, add-suc, suc-add)

pub gathered : (s r : List ℕ) (at i : ℕ) → i < length r → take i r ≡ bytes s at i → take (i + 1) (set r i (get_or s (at + i) 0)) ≡ bytes s at (i + 1)
gathered s r at i h e = rw (add-one, take-suc-set r i (get_or s (at + i) 0) h, one_more s at i, e)

-- Worked examples, by which a reader can hold the definition. Assumes nothing.
use mathlib.Core.Path.{◌≡◌, refl}
use mathlib.Core.List.{List, [], ◌∷◌, map}
use Prim.Native.Nat.{ℕ, ◌+◌}
use lib.ListN.{replicate}
use Rattle.standard.specs.Vector.{shuffle}
use Rattle.chain.specs.Definition.{chained, refusal, counted, folded}

-- a link that leaves the current vector as it is, and one that has an index above 31
idle : List ℕ
idle = 2 ∷ counted 16 0

above : List ℕ
above = 0 ∷ counted 16 17

sixteen_links : refusal (replicate 16 idle) ≡ 0
unfolding idle
sixteen_links = refl

index_of_32 : refusal (idle ∷ above ∷ []) ≡ 5
unfolding idle above
index_of_32 = refl

-- both hold, and the first is given
links_first : refusal (replicate 17 above) ≡ 18
unfolding above
links_first = refl

-- a link that takes its second vector, from each partner in turn: b; a again; itself
takes_b : folded ((1 ∷ counted 16 16) ∷ []) ≡ counted 16 16
unfolding folded chained shuffle
takes_b = refl

takes_a_again : folded ((1 ∷ counted 16 16) ∷ (0 ∷ counted 16 16) ∷ []) ≡ counted 16 0
unfolding folded chained shuffle
takes_a_again = refl

takes_itself : folded ((1 ∷ counted 16 16) ∷ (255 ∷ counted 16 16) ∷ []) ≡ counted 16 16
unfolding folded chained shuffle
takes_itself = refl

-- examples/deinterleave: every second byte of both; of these every second one, then the others; the odd bytes of b; the halves turned round, and a's last four
twice : ℕ → ℕ
twice n = n + n

odd : ℕ → ℕ
odd n = n + n + 1

deinterleaved : folded
    ((1 ∷ map twice (counted 16 0))
    ∷ (2 ∷ 0 ∷ 2 ∷ 4 ∷ 6 ∷ 8 ∷ 10 ∷ 12 ∷ 14 ∷ map odd (counted 8 0))
    ∷ (1 ∷ 0 ∷ 1 ∷ 2 ∷ 3 ∷ 4 ∷ 5 ∷ 6 ∷ 7 ∷ map odd (counted 8 8))
    ∷ (0 ∷ 8 ∷ 9 ∷ 10 ∷ 11 ∷ 12 ∷ 13 ∷ 14 ∷ 15 ∷ 0 ∷ 1 ∷ 2 ∷ 3 ∷ counted 4 28)
    ∷ [])
    ≡ 0x11 ∷ 0x13 ∷ 0x15 ∷ 0x17 ∷ 0x19 ∷ 0x1b ∷ 0x1d ∷ 0x1f ∷ 0x00 ∷ 0x04 ∷ 0x08 ∷ 0x0c ∷ 0x0c ∷ 0x0d ∷ 0x0e ∷ 0x0f ∷ []
unfolding folded chained shuffle twice odd
deinterleaved = refl

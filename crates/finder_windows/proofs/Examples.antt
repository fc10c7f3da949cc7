-- Worked examples, by which a reader can hold the definition. Assumes nothing.
use mathlib.Core.Path.{◌≡◌, refl}
use mathlib.Core.List.{List, [], ◌∷◌, ◌++◌}
use Prim.Native.Nat.{ℕ}
use Rattle.finder_windows.specs.Definition.{binary, bits, marker_bits, distance, found, refused, first_from, find}

-- 0x1a is 0001 1010, and its top bit is the first
top_bit_first : bits (0x1a ∷ []) ≡ 0 ∷ 0 ∷ 0 ∷ 1 ∷ 1 ∷ 0 ∷ 1 ∷ 0 ∷ []
unfolding bits binary
top_bit_first = refl

-- a byte after the other, and the marker as the buffer has it
marker_as_sent : bits (0x1a ∷ 0xcf ∷ 0xfc ∷ 0x1d ∷ []) ≡ marker_bits 0x1acffc1d
unfolding bits binary
marker_as_sent = refl

sent : List ℕ
sent = 0x1a ∷ 0xcf ∷ 0xfc ∷ 0x1d ∷ []

between : List ℕ
between = 0x00 ∷ 0x00 ∷ 0x00 ∷ 0x00 ∷ []

-- twelve bytes, the second marker with its last bit wrong
met_again : find (sent ++ between ++ 0x1a ∷ 0xcf ∷ 0xfc ∷ 0x1c ∷ []) 0x1acffc1d 1 64 ≡ found 0 0 1
unfolding find first_from distance bits binary sent between
met_again = refl

-- with no error allowed it stands only once
stands_once : find (sent ++ between ++ 0x1a ∷ 0xcf ∷ 0xfc ∷ 0x1c ∷ []) 0x1acffc1d 0 64 ≡ refused 11
unfolding find first_from distance bits binary sent between
stands_once = refl

-- off a byte boundary: four bits later
four_bits_later : find (0x01 ∷ 0xac ∷ 0xff ∷ 0xc1 ∷ 0xd0 ∷ 0x00 ∷ 0x00 ∷ 0x00 ∷ 0x01 ∷ 0xac ∷ 0xff ∷ 0xc1 ∷ 0xd0 ∷ []) 0x1acffc1d 0 64 ≡ found 4 0 0
unfolding find first_from distance bits binary
four_bits_later = refl

-- every refusal holds, and the first is given
tolerance_first : find [] 0x1acffc1d 9 63 ≡ refused 8
unfolding find
tolerance_first = refl

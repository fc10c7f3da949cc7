-- What is allowed, at places where it is more than one value, computed: the published suite's alternatives among them; and the dots that meet four −128,
-- with what is given there. Assumes nothing.
use mathlib.Core.Path.{◌≡◌, refl}
use mathlib.Core.List.{List, [], ◌∷◌, map}
use Prim.Native.Nat.{ℕ, ◌-◌, ◌^◌}
use lib.Ieee.{binary32, lt, eq, of_bits, to_bits, nan_bits}
use Rattle.standard.specs.Lanes.{binary, extract}
use Rattle.standard.specs.Integer.{bitwise, inot}
use Rattle.standard.specs.Float.{fmin}
use Rattle.standard.specs.Vector.{dot, extadd_pairwise}
use Rattle.standard.specs.Relaxed.{relaxed_dot, relaxed_dot_add}
use Rattle.standard.proofs.Cases.{Case, ◌gives◌, Hold}
use Rattle.lane_relaxed_theorems.specs.Allowed.{swizzled, selected, multiplied, chosen, dots, dots_added}

pub record Set : Type 0 where
  pub values : List ℕ
  pub expected : List ℕ

infix 4 ◌allows◌
abbrev pub ◌allows◌ : List ℕ → List ℕ → Set
vs allows ws = record { values = vs; expected = ws }

abbrev pub sets : List Set
sets =
    -- index 17 of a vector whose lanes 0 and 1 are 5 and 6: nothing, or lane 1; index 128: nothing
    (swizzled (5 ∷ 6 ∷ []) 17 allows 0 ∷ 6 ∷ [])
    ∷ (swizzled (5 ∷ 6 ∷ []) 128 allows 0 ∷ [])
    -- masks 0xf0 and 0x0f
    ∷ (selected 8 0x12 0x34 0xf0 allows 0x14 ∷ 0x12 ∷ [])
    ∷ (selected 8 0x12 0x34 0x0f allows 0x32 ∷ 0x34 ∷ [])
    ∷ (selected 8 0x12 0x34 0xff allows 0x12 ∷ [])
    -- −32768 and −32768
    ∷ (multiplied 0x8000 0x8000 allows 0x7fff ∷ 0x8000 ∷ [])
    -- a negative NaN and 0; 0 and −0
    ∷ (chosen fmin binary32 0xffc0_0000 0 allows 0x7fc0_0000 ∷ 0xffc0_0000 ∷ 0xffc0_0000 ∷ 0 ∷ [])
    ∷ (chosen fmin binary32 0 0x8000_0000 allows 0x8000_0000 ∷ 0 ∷ 0x8000_0000 ∷ [])
    -- −128·−127 twice, or −128·129 twice, which is held at −32768; four of the first and 1
    ∷ (dots 0x8080 0x8181 allows 32512 ∷ 0x8000 ∷ [])
    ∷ (dots_added 0x8080_8080 0x8181_8181 1 allows 65025 ∷ (2 ^ 32 - 65535) ∷ [])
    -- four −128: 32767, or −128·128 twice
    ∷ (dots 0x8080 0x8080 allows 0x7fff ∷ 0x8000 ∷ [])
    -- four −128, with 1·−1 twice beside them: 32767 − 2, or −32768 + 2·255
    ∷ (dots_added 0x0101_8080 0xffff_8080 0 allows 32765 ∷ (2 ^ 32 - 32258) ∷ [])
    ∷ []

pub sets_hold : map (λ (s : Set). s.values) sets ≡ map (λ (s : Set). s.expected) sets
unfolding bitwise inot lt eq of_bits to_bits nan_bits
sets_hold = refl

-- four −128 here: −32768, which is the second choice's; beside it, in the same vector, −128·−127 twice: 32512, which is the first choice's; so no one choice
-- gives this vector. In a 32-bit lane with 1·−1 twice beside them −32770, which is not allowed (docs/DIFFERENCES.md)
pub four : List Case
unfolding extract dot binary extadd_pairwise
four =
    (extract 16 (relaxed_dot 0x8080_8080 0x8181_8080) 0 gives 0x8000)
    ∷ (extract 16 (relaxed_dot 0x8080_8080 0x8181_8080) 1 gives 32512)
    ∷ (extract 32 (relaxed_dot_add 0x0101_8080 0xffff_8080 0) 0 gives 2 ^ 32 - 32770)
    ∷ []

pub four_hold : Hold four
unfolding four
four_hold = refl

-- The relaxed instructions at the places where the choices show, computed; and those that stay out of the table (document 02, order 11). Assumes nothing.
use mathlib.Core.Path.{◌≡◌, refl}
use mathlib.Core.List.{List, [], ◌∷◌}
use Prim.Native.Nat.{◌-◌, ◌^◌}
use lib.ListN.{take, drop, replicate}
use Rattle.standard.specs.Lanes.{binary, splat, extract}
use Rattle.standard.specs.Integer.{inot, bitwise}
use Rattle.standard.specs.Vector.{extadd_pairwise, dot, swizzle}
use Rattle.standard.specs.Relaxed.{relaxed_swizzle, relaxed_laneselect, relaxed_q15mulr, relaxed_dot, relaxed_dot_add}
use Rattle.standard.specs.Instruction.{none, table}
use Rattle.standard.proofs.Cases.{Case, ◌gives◌, Hold}

pub cases : List Case
unfolding splat extract swizzle bitwise inot binary dot extadd_pairwise
cases =
    -- an index of 16: 0, and not lane 0, which is 255
    (extract 8 (relaxed_swizzle 255 16) 0 gives 0)
    -- masks 0x80 and 0x0f: bit by bit, and not by the top bit
    ∷ (extract 8 (relaxed_laneselect 255 0 0x80) 0 gives 0x80)
    ∷ (extract 8 (relaxed_laneselect 0x12 0x34 0x0f) 0 gives 0x32)
    -- −32768 twice: 32767
    ∷ (extract 16 (relaxed_q15mulr 0x8000 0x8000) 0 gives 32767)
    -- 1·−1 + 1·−1 = −2: the second vector's bytes are signed
    ∷ (extract 16 (relaxed_dot (splat 8 1) (splat 8 0xff)) 7 gives 2 ^ 16 - 2)
    -- four −128: 32768 modulo 2^16, which is −32768
    ∷ (extract 16 (relaxed_dot (splat 8 0x80) (splat 8 0x80)) 7 gives 0x8000)
    -- the published suite's: four products −128·127 and 1; four products 127·127 and 2
    ∷ (extract 32 (relaxed_dot_add 0x7f7f7f7f80808080 0x7f7f7f7f7f7f7f7f 0x200000001) 0 gives 0xffff0201)
    ∷ (extract 32 (relaxed_dot_add 0x7f7f7f7f80808080 0x7f7f7f7f7f7f7f7f 0x200000001) 1 gives 0xfc06)
    ∷ []

pub examples_hold : Hold cases
unfolding cases
examples_hold = refl

-- 257 to 264, the relaxed truncations and the multiply-adds, are no instructions here.
pub stay_out : take 8 (drop 257 table) ≡ replicate 8 none
unfolding table
stay_out = refl

-- The definitions at the places where their rules show, computed. Assumes nothing.
use mathlib.Core.Path.{refl}
use mathlib.Core.List.{List, [], ◌∷◌}
use Prim.Native.Nat.{◌+◌, ◌-◌, ◌^◌}
use lib.Ieee.{binary32, binary64, round, of_int, of_bits, to_bits, to_unsigned, to_signed}
use Rattle.standard.proofs.Cases.{Case, ◌gives◌, Hold}
use Rattle.standard.specs.Convert.{from, ftrunc, ffloor, fceil, fnearest, demote, promote, convert_u, convert_s, trunc_sat_u, trunc_sat_s}

abbrev pub cases : List Case
cases =
    -- nearest of 0.5, 1.5, 2.5 and −0.5 is 0, 2, 2 and −0
    (fnearest binary32 0x3f00_0000 gives 0)
    ∷ (fnearest binary32 0x3fc0_0000 gives 0x4000_0000)
    ∷ (fnearest binary32 0x4020_0000 gives 0x4000_0000)
    ∷ (fnearest binary32 0xbf00_0000 gives 0x8000_0000)
    ∷ (fnearest binary64 0x4004_0000_0000_0000 gives 0x4000_0000_0000_0000)
    -- −0.5 up is −0, down −1; −1.5 toward zero is −1; the smallest number up is 1; an infinity stays; a NaN is made the one
    ∷ (fceil binary32 0xbf00_0000 gives 0x8000_0000)
    ∷ (ffloor binary32 0xbf00_0000 gives 0xbf80_0000)
    ∷ (ftrunc binary64 0xbff8_0000_0000_0000 gives 0xbff0_0000_0000_0000)
    ∷ (fceil binary64 1 gives 0x3ff0_0000_0000_0000)
    ∷ (ffloor binary64 0xfff0_0000_0000_0000 gives 0xfff0_0000_0000_0000)
    ∷ (ftrunc binary64 0xfff0_0000_0000_0001 gives 0x7ff8_0000_0000_0000)
    -- 2^24 + 1 and 2^24 + 3 tie to even; 2^32 − 1 is rounded to 2^32, and is exact as an f64; −1
    ∷ (convert_u binary32 (2 ^ 24 + 1) gives 0x4b80_0000)
    ∷ (convert_u binary32 (2 ^ 24 + 3) gives 0x4b80_0002)
    ∷ (convert_u binary32 (2 ^ 32 - 1) gives 0x4f80_0000)
    ∷ (convert_u binary64 (2 ^ 32 - 1) gives 0x41ef_ffff_ffe0_0000)
    ∷ (convert_s binary32 (2 ^ 32 - 1) gives 0xbf80_0000)
    -- just below 2^128 − 2^103, there and just above
    ∷ (demote 0x47ef_ffff_efff_ffff gives 0x7f7f_ffff)
    ∷ (demote 0x47ef_ffff_f000_0000 gives 0x7f80_0000)
    ∷ (demote 0xc7ef_ffff_f000_0001 gives 0xff80_0000)
    -- half of the smallest f32, and the next f64; the largest subnormal; a NaN
    ∷ (demote 0x3690_0000_0000_0000 gives 0)
    ∷ (demote 0x3690_0000_0000_0001 gives 1)
    ∷ (demote 0x380f_ffff_c000_0000 gives 0x007f_ffff)
    ∷ (demote 0xfff0_0000_0000_0001 gives 0x7fc0_0000)
    -- the smallest f32; a negative number; a NaN
    ∷ (promote 1 gives 0x36a0_0000_0000_0000)
    ∷ (promote 0xbfc0_0000 gives 0xbff8_0000_0000_0000)
    ∷ (promote 0xff80_0001 gives 0x7ff8_0000_0000_0000)
    -- −0.9 unsigned; 2^31 and −2^32 signed; 2^32; −1.5; a NaN
    ∷ (trunc_sat_u binary32 0xbf66_6666 gives 0)
    ∷ (trunc_sat_s binary32 0x4f00_0000 gives 2 ^ 31 - 1)
    ∷ (trunc_sat_s binary64 0xc1f0_0000_0000_0000 gives 2 ^ 31)
    ∷ (trunc_sat_u binary64 0x41f0_0000_0000_0000 gives 2 ^ 32 - 1)
    ∷ (trunc_sat_s binary32 0xbfc0_0000 gives 2 ^ 32 - 1)
    ∷ (trunc_sat_s binary32 0x7fc0_0000 gives 0)
    ∷ (trunc_sat_u binary64 0xfff0_0000_0000_0001 gives 0)
    ∷ []

pub examples_hold : Hold cases
unfolding from round of_int of_bits to_bits to_unsigned to_signed
examples_hold = refl

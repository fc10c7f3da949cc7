-- The definitions at the places where their rules show, computed, at both formats. Assumes nothing.
use mathlib.Core.Path.{refl}
use mathlib.Core.List.{List, [], ◌∷◌}
use lib.Ieee.{binary32, binary64, add, sub, mul, div, lt, eq, of_bits, to_bits, nan_bits}
use Rattle.standard.proofs.Cases.{Case, ◌gives◌, Hold}
use Rattle.standard.specs.Float.{fadd, fsub, fmul, fdiv, fmin, fmax}

abbrev pub cases : List Case
cases =
    -- 1 + 2^-24 ties to 1; 1 + 3·2^-24 ties to the even number above
    (fadd binary32 0x3f80_0000 0x3380_0000 gives 0x3f80_0000)
    ∷ (fadd binary32 0x3f80_0000 0x3440_0000 gives 0x3f80_0002)
    -- the largest finite number plus itself is infinity
    ∷ (fadd binary32 0x7f7f_ffff 0x7f7f_ffff gives 0x7f80_0000)
    -- 0 · infinity, infinity − infinity, 0 / 0 and a sum with a negative NaN that has a payload
    ∷ (fmul binary32 0 0x7f80_0000 gives 0x7fc0_0000)
    ∷ (fsub binary32 0x7f80_0000 0x7f80_0000 gives 0x7fc0_0000)
    ∷ (fdiv binary32 0 0 gives 0x7fc0_0000)
    ∷ (fadd binary32 0xffc0_1234 0x3f80_0000 gives 0x7fc0_0000)
    -- −0 + +0; the lower and the higher of both zeros, either way round; of a number and a NaN
    ∷ (fadd binary32 0x8000_0000 0 gives 0)
    ∷ (fmin binary32 0x8000_0000 0 gives 0x8000_0000)
    ∷ (fmin binary32 0 0x8000_0000 gives 0x8000_0000)
    ∷ (fmax binary32 0x8000_0000 0 gives 0)
    ∷ (fmax binary32 0 0x8000_0000 gives 0)
    ∷ (fmin binary32 0x3f80_0000 0xff80_0001 gives 0x7fc0_0000)
    ∷ (fmax binary32 0xff80_0001 0x3f80_0000 gives 0x7fc0_0000)
    -- the smallest subnormal halved
    ∷ (fmul binary32 1 0x3f00_0000 gives 0)
    -- the same at 64 bits, with 2^-53 and 3·2^-53
    ∷ (fadd binary64 0x3ff0_0000_0000_0000 0x3ca0_0000_0000_0000 gives 0x3ff0_0000_0000_0000)
    ∷ (fadd binary64 0x3ff0_0000_0000_0000 0x3cb8_0000_0000_0000 gives 0x3ff0_0000_0000_0002)
    ∷ (fadd binary64 0x7fef_ffff_ffff_ffff 0x7fef_ffff_ffff_ffff gives 0x7ff0_0000_0000_0000)
    ∷ (fmul binary64 0 0x7ff0_0000_0000_0000 gives 0x7ff8_0000_0000_0000)
    ∷ (fsub binary64 0x7ff0_0000_0000_0000 0x7ff0_0000_0000_0000 gives 0x7ff8_0000_0000_0000)
    ∷ (fdiv binary64 0 0 gives 0x7ff8_0000_0000_0000)
    ∷ (fadd binary64 0xfff8_0000_0000_1234 0x3ff0_0000_0000_0000 gives 0x7ff8_0000_0000_0000)
    ∷ (fadd binary64 0x8000_0000_0000_0000 0 gives 0)
    ∷ (fmin binary64 0x8000_0000_0000_0000 0 gives 0x8000_0000_0000_0000)
    ∷ (fmin binary64 0 0x8000_0000_0000_0000 gives 0x8000_0000_0000_0000)
    ∷ (fmax binary64 0x8000_0000_0000_0000 0 gives 0)
    ∷ (fmax binary64 0 0x8000_0000_0000_0000 gives 0)
    ∷ (fmin binary64 0x3ff0_0000_0000_0000 0xfff0_0000_0000_0001 gives 0x7ff8_0000_0000_0000)
    ∷ (fmax binary64 0xfff0_0000_0000_0001 0x3ff0_0000_0000_0000 gives 0x7ff8_0000_0000_0000)
    ∷ (fmul binary64 1 0x3fe0_0000_0000_0000 gives 0)
    ∷ []

pub examples_hold : Hold cases
unfolding add sub mul div lt eq of_bits to_bits nan_bits
examples_hold = refl

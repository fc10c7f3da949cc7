-- Conversions between whole numbers and floats and between the two float formats, and floats rounded to whole numbers, on patterns (the standard, 4.3.3
-- "Floating-Point Operations" and 4.3.4 "Conversions"). A finite float is a sign and a quotient of whole numbers: `fin s m e` is ± (m * up e) / down e. Into
-- a format one rule rounds: `round f s n c` is the value of f nearest to ± n / c, a tie to the even one (lib.Ieee; proved in
-- `lane_float_theorems/proofs/Nearest`).
use Rattle.std.specs.Prelude.{ℕ, ◌+◌, ◌-◌, ◌*◌, ◌/◌, Bool, cond, pos, Float}
use Rattle.std.specs.Float.Ieee
use Rattle.std.specs.Float.{nan, inf, fin, Format, binary32, binary64}
use Rattle.std.specs.Float.Ieee.{round, of_bits, to_bits}
use Rattle.std.specs.Float.Ieee.Nearest.{closest}
use Rattle.standard.specs.Integer.{signed, modulo}
use Rattle.standard.specs.Float.{whole}

-- Into the whole numbers there are four directions.
pub data Direction : Type 0 where
  toward_zero downward upward to_even : Direction

abbrev pub ceiling : ℕ → ℕ → ℕ
ceiling n c = (n + (c - 1)) / c

-- The magnitude of the whole number that stands for ± n / c. `closest` is the nearest, a tie to the even one.
abbrev pub integer : Direction → Bool → ℕ → ℕ → ℕ
integer toward_zero s n c = n / c
integer downward s n c = cond s (ceiling n c) (n / c)
integer upward s n c = cond s (n / c) (ceiling n c)
integer to_even s n c = closest n c

-- A float made from another's sign and quotient. A NaN and an infinity stay what they are.
unfoldable pub from : (Bool → ℕ → ℕ → Float) → Float → Float
from g nan = nan
from g (inf s) = inf s
from g (fin s m e) = g s (m * Ieee.up e) (Ieee.down e)

-- ftrunc, ffloor, fceil, fnearest. The sign stays, of a result that is zero too.
abbrev pub integral : Direction → Format → ℕ → ℕ
integral d f a = to_bits f (from (λ s n c. round f s (integer d s n c) 1) (of_bits f a))

abbrev pub ftrunc : Format → ℕ → ℕ
ftrunc = integral toward_zero

abbrev pub ffloor : Format → ℕ → ℕ
ffloor = integral downward

abbrev pub fceil : Format → ℕ → ℕ
fceil = integral upward

abbrev pub fnearest : Format → ℕ → ℕ
fnearest = integral to_even

-- demote, promote: the same value, rounded once to the other format.
abbrev pub demote : ℕ → ℕ
demote a = to_bits binary32 (from (round binary32) (of_bits binary64 a))

abbrev pub promote : ℕ → ℕ
promote a = to_bits binary64 (from (round binary64) (of_bits binary32 a))

-- convert_u, convert_s: of a lane of 32 bits, to a format.
abbrev pub convert_u : Format → ℕ → ℕ
convert_u f n = whole f (pos n)

abbrev pub convert_s : Format → ℕ → ℕ
convert_s f n = whole f (signed 32 n)

-- trunc_sat_u, trunc_sat_s: cut toward zero, held to both ends of the range of 32 bits, and 0 of a NaN.
abbrev pub trunc_sat_u : Format → ℕ → ℕ
trunc_sat_u f a = Ieee.to_unsigned 32 (of_bits f a)

abbrev pub trunc_sat_s : Format → ℕ → ℕ
trunc_sat_s f a = modulo 32 (Ieee.to_signed 31 (of_bits f a))

-- Float lanes, on bit patterns, through the toolchain's account of IEEE 754 (lib.Ieee): the standard, 4.3.3 "Floating-Point Operations".
use Rattle.std.specs.Prelude.{ℕ, ◌+◌, ◌-◌, ◌%◌, Bool, cond, ◌&&◌, ◌||◌, ℤ, ltb, leb}
use Rattle.std.specs.Float.Ieee
use Rattle.std.specs.Float.{Format, binary32, binary64, nan}
use Rattle.std.specs.Float.Ieee.{of_bits, to_bits, nan_bits, top}
use Rattle.standard.specs.Integer.{truth}

-- The width of a format's pattern.
abbrev pub width : Format → ℕ
width binary32 = 32
width binary64 = 64

-- The pattern of a whole number, rounded once to the nearest value of the format, a tie to the even one.
abbrev pub whole : Format → ℤ → ℕ
whole f z = to_bits f (Ieee.of_int f z)

-- feq, fne, flt, fgt, fle, fge: −0 equals +0, and with a NaN only "not equal" is true.
abbrev pub feq : Format → ℕ → ℕ → ℕ
feq f a b = truth (width f) (Ieee.eq (of_bits f a) (of_bits f b))

abbrev pub fne : Format → ℕ → ℕ → ℕ
fne f a b = truth (width f) (Ieee.ne (of_bits f a) (of_bits f b))

abbrev pub flt : Format → ℕ → ℕ → ℕ
flt f a b = truth (width f) (Ieee.lt (of_bits f a) (of_bits f b))

abbrev pub fgt : Format → ℕ → ℕ → ℕ
fgt f a b = truth (width f) (Ieee.lt (of_bits f b) (of_bits f a))

abbrev pub fle : Format → ℕ → ℕ → ℕ
fle f a b = truth (width f) (Ieee.le (of_bits f a) (of_bits f b))

abbrev pub fge : Format → ℕ → ℕ → ℕ
fge f a b = truth (width f) (Ieee.le (of_bits f b) (of_bits f a))

-- fneg, fabs: "touch the sign bit only, of a NaN too". `top f` is the sign bit's weight.
abbrev pub fneg : Format → ℕ → ℕ
fneg f a = cond (ltb a (top f)) (a + top f) (a - top f)

abbrev pub fabs : Format → ℕ → ℕ
fabs f a = a % top f

-- fpmin: b where b < a, else a. fpmax: b where a < b, else a. The bits of the chosen lane.
abbrev pub fpmin : Format → ℕ → ℕ → ℕ
fpmin f a b = cond (Ieee.lt (of_bits f b) (of_bits f a)) b a

abbrev pub fpmax : Format → ℕ → ℕ → ℕ
fpmax f a b = cond (Ieee.lt (of_bits f a) (of_bits f b)) b a

-- fadd, fsub, fmul, fdiv: the exact result, rounded once to the nearest value of the format, a tie to the even one. Every NaN result is the positive
-- quiet one (document 02, order 4): the operations know one NaN, and that is the pattern which `to_bits` writes for it.
abbrev pub fadd : Format → ℕ → ℕ → ℕ
fadd f a b = to_bits f (Ieee.add f (of_bits f a) (of_bits f b))

abbrev pub fsub : Format → ℕ → ℕ → ℕ
fsub f a b = to_bits f (Ieee.sub f (of_bits f a) (of_bits f b))

abbrev pub fmul : Format → ℕ → ℕ → ℕ
fmul f a b = to_bits f (Ieee.mul f (of_bits f a) (of_bits f b))

abbrev pub fdiv : Format → ℕ → ℕ → ℕ
fdiv f a b = to_bits f (Ieee.div f (of_bits f a) (of_bits f b))

-- Whether a is below b, −0 counted below +0. Equal numbers have one pattern, but for the zeros (proved: `lane_float_theorems/proofs/OnePattern`): there the
-- sign of a decides.
abbrev pub under : Format → ℕ → ℕ → Bool
under f a b = Ieee.lt (of_bits f a) (of_bits f b) || (Ieee.eq (of_bits f a) (of_bits f b) && leb (top f) a)

-- fmin, fmax: a NaN where either is one, else the lower and the higher of the two.
abbrev pub fmin : Format → ℕ → ℕ → ℕ
fmin f a b = cond (nan_bits f a || nan_bits f b) (to_bits f nan) (cond (under f a b) a b)

abbrev pub fmax : Format → ℕ → ℕ → ℕ
fmax f a b = cond (nan_bits f a || nan_bits f b) (to_bits f nan) (cond (under f a b) b a)

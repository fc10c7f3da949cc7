-- Document 01, "Numbers to be proved": cases a to m, in one table, with one theorem. A lane's result is its signed reading, but for the cases that
-- document 01 gives as unsigned or in hex.
-- Assumes nothing.
use mathlib.Core.Path.{◌≡◌, refl}
use mathlib.Core.List.{List, [], ◌∷◌, map}
use Prim.Native.Nat.{ℕ, ◌+◌, ◌-◌, ◌*◌, ◌^◌}
use lib.IntN.{ℤ, pos, neg_ℤ}
use Rattle.standard.specs.Lanes.{binary, splat, extract}
use Rattle.standard.specs.Integer.{signed, modulo, isub, iavgr_u, iq15mulrsat_s, ishl, ishr_s, narrow_u}
use Rattle.standard.specs.Vector.{dot, swizzle, bitmask}

pub record Case : Type 0 where
  pub result : ℤ
  pub expected : ℤ

-- a signed 16-bit lane from a whole number
i16 : ℤ → ℕ
i16 = modulo 16

-- q15mulr of two signed lanes
q15 : ℤ → ℤ → ℤ
unfolding i16
q15 a b = signed 16 (iq15mulrsat_s 16 (i16 a) (i16 b))

-- lane 0 of the dot of vectors whose lanes are all the same
dots : ℤ → ℤ → ℤ
unfolding i16 dot splat extract
dots a b = signed 32 (extract 32 (dot 16 (splat 16 (i16 a)) (splat 16 (i16 b))) 0)

-- lane i of an i8x16 subtraction from zero of the vector whose lane 0 is 1
borrowing : ℕ → ℤ
unfolding binary extract
borrowing i = pos (extract 8 (binary 8 (isub 8) 0 1) i)

pub cases : List Case
unfolding q15 dots borrowing swizzle extract bitmask
cases =
    -- a to d
    record { result = q15 (neg_ℤ (pos 32768)) (neg_ℤ (pos 32768)); expected = pos 32767 }
    ∷ record { result = q15 (pos 1) (pos 16384); expected = pos 1 }
    ∷ record { result = q15 (neg_ℤ (pos 1)) (pos 16384); expected = pos 0 }
    ∷ record { result = q15 (neg_ℤ (pos 1)) (pos 16385); expected = neg_ℤ (pos 1) }
    -- e, f
    ∷ record { result = dots (neg_ℤ (pos 32768)) (neg_ℤ (pos 32768)); expected = neg_ℤ (pos 2147483648) }
    ∷ record { result = dots (neg_ℤ (pos 32768)) (pos 32767); expected = neg_ℤ (pos 2147418112) }
    -- g: every lane of the vector is 255, and the index is 16
    ∷ record { result = pos (extract 8 (swizzle (2 ^ 128 - 1) 16) 0); expected = pos 0 }
    -- h, i
    ∷ record { result = pos (ishl 8 9 0x81); expected = pos 0x02 }
    ∷ record { result = pos (ishr_s 8 8 0x80); expected = pos 0x80 }
    -- j
    ∷ record { result = pos (iavgr_u 8 255 254); expected = pos 255 }
    -- k
    ∷ record { result = pos (narrow_u 16 8 (modulo 16 (neg_ℤ (pos 1)))); expected = pos 0 }
    ∷ record { result = pos (narrow_u 16 8 256); expected = pos 255 }
    -- l: 0x80 in lanes 0 and 15
    ∷ record { result = pos (bitmask 8 (0x80 + 0x80 * 2 ^ 120)); expected = pos 32769 }
    -- m
    ∷ record { result = borrowing 0; expected = pos 0xFF }
    ∷ record { result = borrowing 1; expected = pos 0 }
    ∷ []

pub numbers_hold : map (λ (c : Case). c.result) cases ≡ map (λ (c : Case). c.expected) cases
unfolding cases
numbers_hold = refl

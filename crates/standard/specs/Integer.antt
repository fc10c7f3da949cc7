-- Operations on integer lanes of N bits (the standard, 4.3.2 "Integer Operations"), under its names. Operands are numbers below 2^N.
use Rattle.std.specs.Prelude.{ℕ, zero, suc, ◌+◌, ◌-◌, ◌*◌, ◌/◌, ◌%◌, ◌^◌, min, max, Bool, not, cond, map, ℤ, pos, negsuc, nat_abs, ◌+ℤ◌, ◌-ℤ◌, ◌*ℤ◌, ltb, leb, eqb}
use Rattle.std.specs.Int.Signed.{lt_z, le_z, non_neg}
use Rattle.standard.specs.Lanes.{digits, joined, zip}

-- signed_N(i): i below 2^(N-1), else i - 2^N.
abbrev pub signed : ℕ → ℕ → ℤ
signed n i = cond (ltb i (2 ^ (n - 1))) (pos i) (pos i -ℤ pos (2 ^ n))

-- The number below 2^N that is congruent to the whole number modulo 2^N. On the signed range it is the inverse of signed_N.
abbrev pub modulo : ℕ → ℤ → ℕ
modulo n (pos i) = i % 2 ^ n
modulo n (negsuc i) = 2 ^ n - suc (i % 2 ^ n)

-- The floor of a whole number over 2^k.
abbrev pub floor : ℤ → ℕ → ℤ
floor (pos i) k = pos (i / 2 ^ k)
floor (negsuc i) k = negsuc (i / 2 ^ k)

-- sat_u_N and sat_s_N: held to 0..2^N-1, and to -2^(N-1)..2^(N-1)-1.
abbrev pub sat_u : ℕ → ℤ → ℕ
sat_u n j = cond (lt_z j (pos 0)) 0 (cond (lt_z (pos (2 ^ n - 1)) j) (2 ^ n - 1) (nat_abs j))

abbrev pub sat_s : ℕ → ℤ → ℕ
sat_s n j =
    modulo n (cond (lt_z j (negsuc (2 ^ (n - 1) - 1))) (negsuc (2 ^ (n - 1) - 1)) (cond (lt_z (pos (2 ^ (n - 1) - 1)) j) (pos (2 ^ (n - 1) - 1)) j))

-- iadd, isub, imul, ineg: modulo 2^N.
abbrev pub iadd : ℕ → ℕ → ℕ → ℕ
iadd n a b = (a + b) % 2 ^ n

abbrev pub isub : ℕ → ℕ → ℕ → ℕ
isub n a b = (a + 2 ^ n - b) % 2 ^ n

abbrev pub imul : ℕ → ℕ → ℕ → ℕ
imul n a b = a * b % 2 ^ n

abbrev pub ineg : ℕ → ℕ → ℕ
ineg n a = (2 ^ n - a) % 2 ^ n

-- iabs: a where its signed reading is not negative, else ineg. So abs of the lowest number is itself.
abbrev pub iabs : ℕ → ℕ → ℕ
iabs n a = cond (non_neg (signed n a)) a (ineg n a)

-- ipopcnt: the count of bits that are one.
abbrev pub ipopcnt : ℕ → ℕ → ℕ
ipopcnt zero a = 0
ipopcnt (suc n) a = a % 2 + ipopcnt n (a / 2)

-- imin: a where a is less than b, else b. imax: a where a is greater than b, else b.
abbrev pub imin_u : ℕ → ℕ → ℕ → ℕ
imin_u n a b = cond (ltb a b) a b

abbrev pub imin_s : ℕ → ℕ → ℕ → ℕ
imin_s n a b = cond (lt_z (signed n a) (signed n b)) a b

abbrev pub imax_u : ℕ → ℕ → ℕ → ℕ
imax_u n a b = cond (ltb b a) a b

abbrev pub imax_s : ℕ → ℕ → ℕ → ℕ
imax_s n a b = cond (lt_z (signed n b) (signed n a)) a b

-- iadd_sat, isub_sat: "the exact sum or difference, held to the signed or unsigned range".
abbrev pub iadd_sat_u : ℕ → ℕ → ℕ → ℕ
iadd_sat_u n a b = sat_u n (pos a +ℤ pos b)

abbrev pub iadd_sat_s : ℕ → ℕ → ℕ → ℕ
iadd_sat_s n a b = sat_s n (signed n a +ℤ signed n b)

abbrev pub isub_sat_u : ℕ → ℕ → ℕ → ℕ
isub_sat_u n a b = sat_u n (pos a -ℤ pos b)

abbrev pub isub_sat_s : ℕ → ℕ → ℕ → ℕ
isub_sat_s n a b = sat_s n (signed n a -ℤ signed n b)

-- iavgr_u: (a + b + 1) divided by 2, rounded down.
abbrev pub iavgr_u : ℕ → ℕ → ℕ → ℕ
iavgr_u n a b = (a + b + 1) / 2

-- iq15mulrsat_s: the floor of (a·b + 2^14) / 2^15 of the signed readings, held to the signed range.
abbrev pub iq15mulrsat_s : ℕ → ℕ → ℕ → ℕ
iq15mulrsat_s n a b = sat_s n (floor (signed n a *ℤ signed n b +ℤ pos 16384) 15)

-- ishl, ishr_u, ishr_s: the count k is taken modulo N; shr_s is the floor of the signed lane over 2^k.
abbrev pub ishl : ℕ → ℕ → ℕ → ℕ
ishl n k a = a * 2 ^ (k % n) % 2 ^ n

abbrev pub ishr_u : ℕ → ℕ → ℕ → ℕ
ishr_u n k a = a / 2 ^ (k % n)

abbrev pub ishr_s : ℕ → ℕ → ℕ → ℕ
ishr_s n k a = modulo n (floor (signed n a) (k % n))

-- A comparison's lane: all ones or all zeros.
abbrev pub truth : ℕ → Bool → ℕ
truth n t = cond t (2 ^ n - 1) 0

-- ieq, ine, and lt, gt, le, ge, unsigned and signed.
abbrev pub ieq : ℕ → ℕ → ℕ → ℕ
ieq n a b = truth n (eqb a b)

abbrev pub ine : ℕ → ℕ → ℕ → ℕ
ine n a b = truth n (not (eqb a b))

abbrev pub ilt_u : ℕ → ℕ → ℕ → ℕ
ilt_u n a b = truth n (ltb a b)

abbrev pub igt_u : ℕ → ℕ → ℕ → ℕ
igt_u n a b = truth n (ltb b a)

abbrev pub ile_u : ℕ → ℕ → ℕ → ℕ
ile_u n a b = truth n (leb a b)

abbrev pub ige_u : ℕ → ℕ → ℕ → ℕ
ige_u n a b = truth n (leb b a)

abbrev pub ilt_s : ℕ → ℕ → ℕ → ℕ
ilt_s n a b = truth n (lt_z (signed n a) (signed n b))

abbrev pub igt_s : ℕ → ℕ → ℕ → ℕ
igt_s n a b = truth n (lt_z (signed n b) (signed n a))

abbrev pub ile_s : ℕ → ℕ → ℕ → ℕ
ile_s n a b = truth n (le_z (signed n a) (signed n b))

abbrev pub ige_s : ℕ → ℕ → ℕ → ℕ
ige_s n a b = truth n (le_z (signed n b) (signed n a))

-- inot, iand, ior, ixor: bit by bit, ibits_N being the digits in base 2.
unfoldable pub inot : ℕ → ℕ → ℕ
inot n a = joined 1 (map (λ i. 1 - i) (digits 1 n a))

unfoldable pub bitwise : (ℕ → ℕ → ℕ) → ℕ → ℕ → ℕ → ℕ
bitwise f n a b = joined 1 (zip f (digits 1 n a) (digits 1 n b))

abbrev pub iand : ℕ → ℕ → ℕ → ℕ
iand = bitwise min

abbrev pub ior : ℕ → ℕ → ℕ → ℕ
ior = bitwise max

abbrev pub ixor : ℕ → ℕ → ℕ → ℕ
ixor = bitwise (λ i j. (i + j) % 2)

-- iandnot(a, b): iand(a, inot(b)).
abbrev pub iandnot : ℕ → ℕ → ℕ → ℕ
iandnot n a b = iand n a (inot n b)

-- ibitselect(a, b, c): ior(iand(a, c), iand(b, inot(c))).
abbrev pub ibitselect : ℕ → ℕ → ℕ → ℕ → ℕ
ibitselect n a b c = ior n (iand n a c) (iand n b (inot n c))

-- extend_u and extend_s from M to N bits.
abbrev pub extend_u : ℕ → ℕ → ℕ → ℕ
extend_u m n a = a

abbrev pub extend_s : ℕ → ℕ → ℕ → ℕ
extend_s m n a = modulo n (signed m a)

-- narrow_u and narrow_s from M to N bits: the signed reading, held to the unsigned or the signed range.
abbrev pub narrow_u : ℕ → ℕ → ℕ → ℕ
narrow_u m n a = sat_u n (signed m a)

abbrev pub narrow_s : ℕ → ℕ → ℕ → ℕ
narrow_s m n a = sat_s n (signed m a)

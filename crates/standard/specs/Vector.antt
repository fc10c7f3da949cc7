-- Instructions that are not lane by lane (the standard, 4.4.3 "Vector Instructions"; document 01, "Lane rules").
use Rattle.std.specs.Prelude.{ℕ, ◌*◌, ◌/◌, cond, List, [], ◌∷◌, ◌++◌, map, get_or, eqb}
use Rattle.std.specs.Int.Signed.{non_neg}
use Rattle.standard.specs.Lanes.{digits, joined, lanes, zip, pairwise, low_half}
use Rattle.standard.specs.Integer.{signed, iadd, imul, extend_s}

-- shape.extend_half_sx from lanes of width w: `half` is low_half or highHalf, `sx` is extend_u or extend_s.
unfoldable pub extend : (List ℕ → List ℕ) → (ℕ → ℕ → ℕ → ℕ) → ℕ → ℕ → ℕ
extend half sx w x = joined (2 * w) (map (sx w (2 * w)) (half (lanes w x)))

-- shape.extmul_half_sx: the products of the extended lanes.
unfoldable pub extmul : (List ℕ → List ℕ) → (ℕ → ℕ → ℕ → ℕ) → ℕ → ℕ → ℕ → ℕ
extmul half sx w x y =
    joined (2 * w) (zip (imul (2 * w)) (map (sx w (2 * w)) (half (lanes w x))) (map (sx w (2 * w)) (half (lanes w y))))

-- shape.extadd_pairwise_sx: the sums of neighbouring extended lanes.
unfoldable pub extadd_pairwise : (ℕ → ℕ → ℕ → ℕ) → ℕ → ℕ → ℕ
extadd_pairwise sx w x = joined (2 * w) (pairwise (iadd (2 * w)) (map (sx w (2 * w)) (lanes w x)))

-- shape.dot_s from lanes of width w: lane i is x(2i)·y(2i) + x(2i+1)·y(2i+1) of the signed lanes, modulo 2^(2w).
unfoldable pub dot : ℕ → ℕ → ℕ → ℕ
dot w x y =
    joined (2 * w) (pairwise (iadd (2 * w)) (zip (imul (2 * w)) (map (extend_s w (2 * w)) (lanes w x)) (map (extend_s w (2 * w)) (lanes w y))))

-- shape.narrow_sx to lanes of width w: `sx` is narrow_u or narrow_s. The first vector gives the low lanes.
unfoldable pub narrow : (ℕ → ℕ → ℕ → ℕ) → ℕ → ℕ → ℕ → ℕ
narrow sx w x y = joined w (map (sx (2 * w) w) (lanes (2 * w) x ++ lanes (2 * w) y))

-- f64x2.vcvtop_low: the operation of the low lanes of 32 bits.
unfoldable pub convert_low : (ℕ → ℕ) → ℕ → ℕ
convert_low f x = joined 64 (map f (low_half (lanes 32 x)))

-- shape.vcvtop_zero: the operation of both lanes of 64 bits, then two lanes of zeros.
unfoldable pub convert_zero : (ℕ → ℕ) → ℕ → ℕ
convert_zero f x = joined 32 (map f (lanes 64 x) ++ 0 ∷ 0 ∷ [])

-- i8x16.swizzle: the lanes of x that the lanes of s name; an index of 16 to 255 gives 0.
unfoldable pub swizzle : ℕ → ℕ → ℕ
swizzle x s = joined 8 (map (λ i. get_or (lanes 8 x) i 0) (lanes 8 s))

-- i8x16.shuffle: indices 0 to 15 name the lanes of x, 16 to 31 those of y.
unfoldable pub shuffle : List ℕ → ℕ → ℕ → ℕ
shuffle is x y = joined 8 (map (λ i. get_or (lanes 8 x ++ lanes 8 y) i 0) is)

-- v128.any_true: 1 where a bit is set, else 0.
unfoldable pub any_true : ℕ → ℕ
any_true x = cond (eqb x 0) 0 1

-- shape.all_true: 1 where no lane is 0, else 0.
abbrev pub no_zero : List ℕ → ℕ
no_zero [] = 1
no_zero (i ∷ is) = cond (eqb i 0) 0 (no_zero is)

unfoldable pub all_true : ℕ → ℕ → ℕ
all_true w x = no_zero (lanes w x)

-- shape.bitmask: bit i is the sign bit of lane i.
unfoldable pub bitmask : ℕ → ℕ → ℕ
bitmask w x = joined 1 (map (λ i. cond (non_neg (signed w i)) 0 1) (lanes w x))

-- What v128.loadMxN_sx gives for 64 bits: their digits of width w, extended.
unfoldable pub widen : (ℕ → ℕ → ℕ → ℕ) → ℕ → ℕ → ℕ
widen sx w x = joined (2 * w) (map (sx w (2 * w)) (digits w (64 / w) x))

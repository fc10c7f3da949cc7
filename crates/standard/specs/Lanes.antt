-- Lanes of a vector and back (the standard, 4.3.1 "Representations", "Vectors"; document 01, "Lane rules").
use Rattle.std.specs.Prelude.{ℕ, zero, suc, ◌+◌, ◌*◌, ◌/◌, ◌%◌, ◌^◌, List, [], ◌∷◌, map, length, get_or, set, take, drop, replicate}

-- The n lowest digits of x in base 2^w, lowest first.
abbrev pub digits : ℕ → ℕ → ℕ → List ℕ
digits w zero x = []
digits w (suc n) x = x % 2 ^ w ∷ digits w n (x / 2 ^ w)

-- The number with these digits in base 2^w, lowest first.
abbrev pub joined : ℕ → List ℕ → ℕ
joined w [] = 0
joined w (d ∷ ds) = d + 2 ^ w * joined w ds

-- lanes: "lane i of width w bits is bits w·i to w·i+w−1"; its inverse is `joined w`.
abbrev pub lanes : ℕ → ℕ → List ℕ
lanes w x = digits w (128 / w) x

-- f of each pair of elements that stand at one place.
abbrev pub zip : (ℕ → ℕ → ℕ) → List ℕ → List ℕ → List ℕ
zip f [] ys = []
zip f (x ∷ xs) [] = []
zip f (x ∷ xs) (y ∷ ys) = f x y ∷ zip f xs ys

-- f of the first and second element, of the third and fourth, and so on.
abbrev pub pairwise : (ℕ → ℕ → ℕ) → List ℕ → List ℕ
pairwise f [] = []
pairwise f (x ∷ []) = []
pairwise f (x ∷ y ∷ zs) = f x y ∷ pairwise f zs

-- The low and the high half of the lanes ("half" of the standard's extend and extmul).
abbrev pub low_half : List ℕ → List ℕ
low_half xs = take (length xs / 2) xs

abbrev pub high_half : List ℕ → List ℕ
high_half xs = drop (length xs / 2) xs

-- shape.unop: "the result of computing f(i) for each lane i".
unfoldable pub unary : ℕ → (ℕ → ℕ) → ℕ → ℕ
unary w f x = joined w (map f (lanes w x))

-- shape.binop, shape.relop: the same of each pair of lanes.
unfoldable pub binary : ℕ → (ℕ → ℕ → ℕ) → ℕ → ℕ → ℕ
binary w f x y = joined w (zip f (lanes w x) (lanes w y))

-- shape.splat: every lane is c.
unfoldable pub splat : ℕ → ℕ → ℕ
splat w c = joined w (replicate (128 / w) c)

-- shape.extract_lane i: the lane at i, for an i below the lane count.
unfoldable pub extract : ℕ → ℕ → ℕ → ℕ
extract w x i = get_or (lanes w x) i 0

-- shape.replace_lane i: the lane at i is c, the others are as they were.
unfoldable pub replace : ℕ → ℕ → ℕ → ℕ → ℕ
replace w x i c = joined w (set (lanes w x) i c)

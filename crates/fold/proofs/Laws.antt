-- One link more, one byte more of a link. Assumes nothing.
use mathlib.Core.Path.{◌≡◌, refl, sym, ap, ap₂, ◌∙◌}
use mathlib.Core.List.{List, [], ◌∷◌, ◌++◌}
use Prim.Native.Nat.{ℕ, zero, suc, ◌+◌, ◌*◌, ◌<◌}
use native.Mathlib.Numerals.{add-one}
use native.Mathlib.Omega.{arith}
use lib.ListN.{length, get_or, set, take, drop, length-drop}
use lib.Seq.{take-suc, take-suc-set, get_or-drop, drop-drop}
use Rattle.fold.specs.Text.{links}

-- a list filled from its start, by one more element
pub filled : {A : Type 0} (l : List A) (n : ℕ) (a : A) → n < length l → take (n + 1) (set l n a) ≡ take n l ++ (a ∷ [])
filled l n a h = rw add-one (take-suc-set l n a h)

pub one_more : {A : Type 0} (l : List A) (n : ℕ) (d : A) → n < length l → take (n + 1) l ≡ take n l ++ (get_or l n d ∷ [])
one_more l n d h = rw add-one (take-suc l n d h)

-- a byte of a link
pub byte_more : (link bytes : List ℕ) (at j : ℕ) → j < length link → at + j < length bytes → take j link ≡ take j (drop at bytes)
    → take (j + 1) (set link j (get_or bytes (at + j) 0)) ≡ take (j + 1) (drop at bytes)
byte_more link bytes at j h k e =
    filled link j (get_or bytes (at + j) 0) h
    ∙ ap₂ (λ (p : List ℕ) (b : ℕ). p ++ (b ∷ [])) e (sym (get_or-drop at bytes j 0))
    ∙ sym (one_more (drop at bytes) j 0 (simp length-drop (omega arith)))

-- a link of a chain
link_more : (n : ℕ) (bytes : List ℕ) → links (suc n) bytes ≡ links n bytes ++ (take 17 (drop (17 * n) bytes) ∷ [])
unfolding links
link_more zero bytes = refl
link_more (suc n) bytes =
    ap (λ (r : List (List ℕ)). take 17 bytes ∷ r)
    (link_more n (drop 17 bytes)
    ∙ ap (λ (b : List ℕ). links n (drop 17 bytes) ++ (take 17 b ∷ []))
    (drop-drop (17 * n) 17 bytes ∙ ap (λ (k : ℕ). drop k bytes) (let e : 17 + 17 * n ≡ 17 * suc n = omega arith in e)))

pub links_more : (ls : List (List ℕ)) (bytes link : List ℕ) (k : ℕ) → k < length ls → link ≡ take 17 (drop (17 * k) bytes) → take k ls ≡ links k bytes
    → take (k + 1) (set ls k link) ≡ links (k + 1) bytes
links_more ls bytes link k h e p =
    filled ls k link h ∙ ap₂ (λ (r : List (List ℕ)) (l : List ℕ). r ++ (l ∷ [])) p e ∙ sym (rw add-one (link_more k bytes))

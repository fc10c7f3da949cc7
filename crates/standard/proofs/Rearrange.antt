-- Swizzle and shuffle: the test of the indices, the table of both vectors, and what is joined in the end.
-- Assumes nothing.
use mathlib.Core.Path.{◌≡◌, refl, sym, ap, ap₂, ◌∙◌, subst}
use mathlib.Core.Bool.{Bool, true, false, cond}
use mathlib.Core.List.{List, [], ◌∷◌, ◌++◌, map, append-nil}
use Prim.Native.Nat.{ℕ, zero, suc, ◌+◌, ◌%◌, ◌<◌, ◌≤◌, suc-le-suc}
use native.Mathlib.Nat.{mod-eq_of_lt}
use native.Mathlib.Omega.{arith}
use borrow.Author.Tests.{le-leb, lt-leb, leb-true, ltb-true, ltb-false}
use lib.Dec.{T, leb, ltb}
use lib.ListN.{length, get_or, take, drop, replicate, length-append, length-drop, drop_of_length-le, get_or-append, get_or-eq_default}
use lib.Seq.{paste, take_all, take_at, get_or_at}
use Rattle.standard.specs.Lanes.{joined, lanes}
use Rattle.standard.specs.Integer.{imin_u}
use Rattle.standard.specs.Refusal.{legal}
use Rattle.standard.specs.Vector.{shuffle}
use Rattle.standard.proofs.Reduce.{next}

module _ (xs : List ℕ) (i : ℕ) (h : i < length xs) where
  -- an index that is legal, and one that is not
  pub index_passes : get_or xs i 0 ≤ 31 → legal (drop i xs) ≡ legal (drop (i + 1) xs)
  index_passes l = ap legal (next xs i h) ∙ ap (λ (b : Bool). cond b (legal (drop (i + 1) xs)) false) (le-leb _ _ l)

  pub index_stops : 31 < get_or xs i 0 → legal (drop i xs) ≡ false
  index_stops l = ap legal (next xs i h) ∙ ap (λ (b : Bool). cond b (legal (drop (i + 1) xs)) false) (lt-leb _ _ l)

pub all_pass : (xs : List ℕ) (i : ℕ) → length xs ≤ i → legal (drop i xs) ≡ legal xs → true ≡ legal xs
all_pass xs i h e = ap legal (sym (drop_of_length-le xs h)) ∙ e

-- a legal list of indices is not changed by taking them modulo 32
pub legal_mod : (g : ℕ → ℕ) (is : List ℕ) → legal is ≡ true → map (λ i. g (i % 32)) is ≡ map g is
legal_mod g [] e = refl
legal_mod g (i ∷ is) e = pick (leb i 31) refl e (legal_mod g is)
  where
    pick : (b : Bool) → leb i 31 ≡ b → cond b (legal is) false ≡ true → (legal is ≡ true → map (λ k. g (k % 32)) is ≡ map g is)
        → map (λ k. g (k % 32)) (i ∷ is) ≡ map g (i ∷ is)
    pick true t l rest = ap₂ ◌∷◌ (ap g (mod-eq_of_lt (suc-le-suc (leb-true i 31 t)))) (rest l)
    pick false t l rest = absurd (subst T (sym l) tt)

-- the sixteen bytes of each vector, one after the other
pub beside_is : (zs a b : List ℕ) → length zs ≡ 32 → length a ≡ 16 → length b ≡ 16 → paste (paste zs 0 a 16) 16 b 16 ≡ a ++ b
beside_is zs a b lz la lb =
    ap (λ (u : List ℕ). paste u 16 b 16) (ap (λ (l : List ℕ). l ++ drop 16 zs) (take_all 16 a (omega arith)))
    ∙ ap₂ ◌++◌ (ap₂ ◌++◌ (take_at a (drop 16 zs) 16 la) (take_all 16 b (omega arith)))
    (drop_of_length-le (a ++ drop 16 zs) {i = 32} (simp (length-append, length-drop) (omega arith)))
    ∙ append-nil (a ++ b)

-- an index of 16 or above names the zero after the sixteen bytes
byte_or_zero : (xs : List ℕ) → length xs ≡ 16 → (i : ℕ) → get_or (xs ++ replicate 16 0) (imin_u 8 i 16 % 32) 0 ≡ get_or xs i 0
byte_or_zero xs l i = pick (ltb i 16) refl
  where
    pick : (t : Bool) → ltb i 16 ≡ t → get_or (xs ++ replicate 16 0) (cond t i 16 % 32) 0 ≡ get_or xs i 0
    pick true e =
        let h : i < 16 = ltb-true i 16 e in
        ap (λ (k : ℕ). get_or (xs ++ replicate 16 0) k 0) (mod-eq_of_lt (omega arith)) ∙ get_or-append xs (replicate 16 0) 0 i (omega arith)
    pick false e =
        let h : 16 ≤ i = ltb-false i 16 e in
        get_or_at xs 0 (replicate 15 0) 0 16 l ∙ sym (get_or-eq_default xs 0 {n = i} (omega arith))

pub take_map : (f : ℕ → ℕ) (n : ℕ) (xs : List ℕ) → take n (map f xs) ≡ map f (take n xs)
take_map f zero xs = refl
take_map f (suc n) [] = refl
take_map f (suc n) (x ∷ xs) = ap (λ (r : List ℕ). f x ∷ r) (take_map f n xs)

-- so sixteen indices, each held to at most 16, name the bytes that they name or 0
pub capped_indices : (xs : List ℕ) → length xs ≡ 16 → (is : List ℕ) → map (λ i. get_or (xs ++ replicate 16 0) (i % 32) 0) (map (λ i. imin_u 8 i 16) is)
    ≡ map (λ i. get_or xs i 0) is
capped_indices xs l [] = refl
capped_indices xs l (i ∷ is) = ap₂ ◌∷◌ (byte_or_zero xs l i) (capped_indices xs l is)

pub shuffle_is : (is : List ℕ) (x y : ℕ) {t xs ys : List ℕ} → legal is ≡ true → t ≡ xs ++ ys → xs ≡ lanes 8 x → ys ≡ lanes 8 y
    → joined 8 (map (λ i. get_or t (i % 32) 0) is) ≡ shuffle is x y
unfolding shuffle
shuffle_is is x y {t} l et ex ey =
    ap (joined 8) (legal_mod (λ i. get_or t i 0) is l)
    ∙ ap (λ (u : List ℕ). joined 8 (map (λ i. get_or u i 0) is)) (et ∙ ap₂ ◌++◌ ex ey)

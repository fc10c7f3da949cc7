-- The judge's loop over the links, and its refusals.
-- Assumes nothing.
use mathlib.Core.Path.{◌≡◌, refl, sym, ap, ◌∙◌, subst}
use mathlib.Core.Bool.{Bool, true, false, not, cond}
use mathlib.Core.List.{List, [], ◌∷◌}
use Prim.Native.Nat.{ℕ, zero, suc, ◌+◌, ◌<◌, ◌≤◌}
use native.Mathlib.Nat.{not-suc-le-zero, le_of_suc-le-suc}
use native.Mathlib.Numerals.{add-one}
use native.Mathlib.Omega.{arith}
use borrow.Author.Tests.{le-ltb}
use lib.Dec.{T, ltb}
use lib.ListN.{length, get_or, drop, drop_of_length-le}
use Rattle.standard.specs.Refusal.{legal}
use Rattle.chain.specs.Definition.{indices, all_legal, refusal}

-- both of two tests hold where the one after the other does
pub both : (p q : Bool) → cond p q false ≡ true → (p ≡ true) × (q ≡ true)
both true q e = (refl, e)
both false q e = absurd (subst T (sym e) tt)

module _ {A : Type 0} (d : A) where
  from_place : (xs : List A) (k : ℕ) → k < length xs → drop k xs ≡ get_or xs k d ∷ drop (suc k) xs
  from_place [] k h = absurd (not-suc-le-zero h)
  from_place (x ∷ xs) zero h = refl
  from_place (x ∷ xs) (suc k) h = from_place xs k (le_of_suc-le-suc h)

  -- what is left of a chain is a link and what is left after it
  pub one_more : (xs : List A) (k : ℕ) → k < length xs → drop k xs ≡ get_or xs k d ∷ drop (k + 1) xs
  one_more xs k h = from_place xs k h ∙ ap (λ (n : ℕ). get_or xs k d ∷ drop n xs) (sym (add-one k))

module _ (links : List (List ℕ)) (k : ℕ) (d : List ℕ) (h : k < length links) where
  at_link : all_legal (drop k links) ≡ cond (legal (indices (get_or links k d))) (all_legal (drop (k + 1) links)) false
  at_link = ap all_legal (one_more d links k h)

  pub link_passes : legal (indices (get_or links k d)) ≡ true → all_legal (drop k links) ≡ all_legal (drop (k + 1) links)
  link_passes e = at_link ∙ ap (λ (b : Bool). cond b (all_legal (drop (k + 1) links)) false) e

  pub link_stops : legal (indices (get_or links k d)) ≡ false → all_legal (drop k links) ≡ false
  link_stops e = at_link ∙ ap (λ (b : Bool). cond b (all_legal (drop (k + 1) links)) false) e

  pub link_legal : all_legal links ≡ true → legal (indices (get_or links k d)) ≡ true
  link_legal e = of links k h e
    where
      of : (links : List (List ℕ)) (k : ℕ) → k < length links → all_legal links ≡ true → legal (indices (get_or links k d)) ≡ true
      of [] k h e = absurd (not-suc-le-zero h)
      of (link ∷ links) zero h e = (both (legal (indices link)) (all_legal links) e).0
      of (link ∷ links) (suc k) h e = of links k (le_of_suc-le-suc h) (both (legal (indices link)) (all_legal links) e).1

pub unrefused : (links : List (List ℕ)) → refusal links ≡ 0 → all_legal links ≡ true
unrefused links e = by (ltb 16 (length links)) (all_legal links) e
  where
    by : (p q : Bool) → ◌≡◌ {A = ℕ} (cond p 18 (cond q 0 5)) 0 → q ≡ true
    by true q e = absurd (omega (arith, e))
    by false true e = refl
    by false false e = absurd (omega (arith, e))

-- a test that is turned round
pub turned : (b c : Bool) → not b ≡ c → b ≡ not c
turned true c e = ap not e
turned false c e = ap not e

-- all links are legal where those before the end are
pub through : (links : List (List ℕ)) (k : ℕ) → length links ≤ k → all_legal (drop k links) ≡ all_legal links → all_legal links ≡ true
through links k over e = sym e ∙ ap all_legal (drop_of_length-le links over)

-- where there are no more than 16 links, their indices decide
pub few_links : (links : List (List ℕ)) {b : Bool} → length links ≤ 16 → all_legal links ≡ b → cond b 0 5 ≡ refusal links
few_links links few e = rw (le-ltb _ _ few, e)

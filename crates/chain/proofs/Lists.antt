-- Lists of bytes and of indices: what holds of every element, of the element at a place, and of a link's partner.
-- Assumes nothing.
use mathlib.Core.Path.{◌≡◌, refl, sym, ◌∙◌}
use mathlib.Core.List.{List, [], ◌∷◌, ◌++◌, map}
use Prim.Native.Nat.{ℕ, zero, suc, ◌+◌, ◌<◌, ◌≤◌}
use native.Mathlib.Nat.{suc_inj, suc-ne-zero}
use native.Mathlib.Omega.{arith}
use lib.ListN.{length, get_or}
use Rattle.standard.proofs.Digits.{Below}
use Rattle.standard.proofs.Halves.{elements, tail_elements, all_elements}
use Rattle.chain.specs.Definition.{indices, partner, counted}

-- what is made of a partner, and what holds of it
pub partner_of : {A B : Type 0} (g : A → B) (p : ℕ) (a b c : A) → partner p (g a) (g b) (g c) ≡ g (partner p a b c)
partner_of g zero a b c = refl
partner_of g (suc zero) a b c = refl
partner_of g (suc (suc p)) a b c = refl

pub partner_has : {A : Type 0} (Q : A → Type 0) (p : ℕ) (a b c : A) → Q a → Q b → Q c → Q (partner p a b c)
partner_has Q zero a b c qa qb qc = qa
partner_has Q (suc zero) a b c qa qb qc = qb
partner_has Q (suc (suc p)) a b c qa qb qc = qc

pub partner_itself : {A : Type 0} (p : ℕ) (a b c : A) → (p ≡ 0 → ⊥) → (p ≡ 1 → ⊥) → c ≡ partner p a b c
partner_itself zero a b c no-a no-b = absurd (no-a refl)
partner_itself (suc zero) a b c no-a no-b = absurd (no-b refl)
partner_itself (suc (suc p)) a b c no-a no-b = refl

-- elements below m
module _ (m : ℕ) (some : 0 < m) where
  get_below : (t : List ℕ) (i : ℕ) → Below m t → get_or t i 0 < m
  get_below [] i b = some
  get_below (x ∷ xs) zero b = b.0
  get_below (x ∷ xs) (suc i) b = get_below xs i b.1

  both_below : (x y : List ℕ) → Below m x → Below m y → Below m (x ++ y)
  both_below [] y bx by = by
  both_below (n ∷ x) y bx by = (bx.0, both_below x y bx.1 by)

  pub picked_below : (h : ℕ → ℕ) (x y is : List ℕ) → Below m x → Below m y → Below m (map (λ i. get_or (x ++ y) (h i) 0) is)
  picked_below h x y [] bx by = tt
  picked_below h x y (i ∷ is) bx by = (get_below (x ++ y) (h i) (both_below x y bx by), picked_below h x y is bx by)

pub counted_below : (m n k : ℕ) → n + k ≤ m → Below m (counted n k)
counted_below m zero k h = tt
counted_below m (suc n) k h = (omega (arith, h), counted_below m n (suc k) (omega (arith, h)))

-- the indices of a link, byte for byte
pub elements_drop : (link : List ℕ) (n : ℕ) → length link ≡ suc n → elements link 1 n ≡ indices link
elements_drop [] n e = absurd (suc-ne-zero n (sym e))
elements_drop (p ∷ is) n e = tail_elements p is 0 n ∙ all_elements is n (suc_inj e)

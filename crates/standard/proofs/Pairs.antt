-- Neighbouring lanes of width w are the two halves of a lane of width w + w.
-- Assumes nothing.
use mathlib.Core.Path.{◌≡◌, refl, sym, ap, ap₂, ◌∙◌}
use mathlib.Core.List.{◌∷◌, map}
use Prim.Native.Nat.{ℕ, zero, suc, ◌+◌, ◌/◌, ◌%◌, ◌^◌}
use lib.Pow.{mod-mod-pow, field, shr-shr}
use Rattle.standard.specs.Lanes.{digits, joined, zip, pairwise, unary, binary}
use Rattle.standard.specs.Integer.{iadd, imul, extend_s}
use Rattle.standard.specs.Vector.{extadd_pairwise, dot}

abbrev pub double : ℕ → ℕ
double zero = zero
double (suc n) = suc (suc (double n))

module _ (w : ℕ) (f : ℕ → ℕ → ℕ) (g : ℕ → ℕ) where
  -- a function of the two halves of each wide lane
  pairs : (n x : ℕ) → pairwise f (map g (digits w (double n) x)) ≡ map (λ y. f (g (y % 2 ^ w)) (g (y / 2 ^ w))) (digits (w + w) n x)
  pairs zero x = refl
  pairs (suc n) x =
      ap₂ ◌∷◌ (sym (ap₂ (λ (a b : ℕ). f (g a) (g b)) (mod-mod-pow x w w) (field x w w)))
      (pairs n (x / 2 ^ w / 2 ^ w) ∙ ap (λ (q : ℕ). map (λ y. f (g (y % 2 ^ w)) (g (y / 2 ^ w))) (digits (w + w) n q)) (shr-shr x w w))

  -- the same of two vectors, joined lane by lane by h first
  pairs₂ : (h : ℕ → ℕ → ℕ) (n x y : ℕ) → pairwise f (zip h (map g (digits w (double n) x)) (map g (digits w (double n) y)))
      ≡ zip (λ a b. f (h (g (a % 2 ^ w)) (g (b % 2 ^ w))) (h (g (a / 2 ^ w)) (g (b / 2 ^ w)))) (digits (w + w) n x) (digits (w + w) n y)
  pairs₂ h zero x y = refl
  pairs₂ h (suc n) x y =
      ap₂ ◌∷◌
      (sym (ap₂ f (ap₂ (λ (a b : ℕ). h (g a) (g b)) (mod-mod-pow x w w) (mod-mod-pow y w w)) (ap₂ (λ (a b : ℕ). h (g a) (g b)) (field x w w) (field y w w))))
      (pairs₂ h n (x / 2 ^ w / 2 ^ w) (y / 2 ^ w / 2 ^ w)
      ∙ ap₂ (λ (p q : ℕ). zip (λ a b. f (h (g (a % 2 ^ w)) (g (b % 2 ^ w))) (h (g (a / 2 ^ w)) (g (b / 2 ^ w)))) (digits (w + w) n p) (digits (w + w) n q))
      (shr-shr x w w) (shr-shr y w w))

-- The instructions, as functions of wide lanes.
pub extadd_8 : (sx : ℕ → ℕ → ℕ → ℕ) (x : ℕ) → unary 16 (λ y. iadd 16 (sx 8 16 (y % 2 ^ 8)) (sx 8 16 (y / 2 ^ 8))) x ≡ extadd_pairwise sx 8 x
unfolding unary extadd_pairwise
extadd_8 sx x = ap (joined 16) (sym (pairs 8 (iadd 16) (sx 8 16) 8 x))

pub extadd_16 : (sx : ℕ → ℕ → ℕ → ℕ) (x : ℕ) → unary 32 (λ y. iadd 32 (sx 16 32 (y % 2 ^ 16)) (sx 16 32 (y / 2 ^ 16))) x ≡ extadd_pairwise sx 16 x
unfolding unary extadd_pairwise
extadd_16 sx x = ap (joined 32) (sym (pairs 16 (iadd 32) (sx 16 32) 4 x))

pub dot_8 : (x y : ℕ)
    → binary 16 (λ a b. iadd 16 (imul 16 (extend_s 8 16 (a % 2 ^ 8)) (extend_s 8 16 (b % 2 ^ 8)))
    (imul 16 (extend_s 8 16 (a / 2 ^ 8)) (extend_s 8 16 (b / 2 ^ 8)))) x y
    ≡ dot 8 x y
unfolding binary dot
dot_8 x y = ap (joined 16) (sym (pairs₂ 8 (iadd 16) (extend_s 8 16) (imul 16) 8 x y))

pub dot_16 : (x y : ℕ)
    → binary 32 (λ a b. iadd 32 (imul 32 (extend_s 16 32 (a % 2 ^ 16)) (extend_s 16 32 (b % 2 ^ 16)))
    (imul 32 (extend_s 16 32 (a / 2 ^ 16)) (extend_s 16 32 (b / 2 ^ 16)))) x y
    ≡ dot 16 x y
unfolding binary dot
dot_16 x y = ap (joined 32) (sym (pairs₂ 16 (iadd 32) (extend_s 16 32) (imul 32) 4 x y))

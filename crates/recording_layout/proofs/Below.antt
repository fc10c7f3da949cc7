-- A test of each number below n, one after the other. Assumes nothing.
use mathlib.Core.Path.{◌≡◌, refl, sym, ap, ◌∙◌}
use mathlib.Core.Bool.{Bool, true, false, ◌&&◌, true≢false}
use Prim.Native.Nat.{ℕ, zero, suc, ◌+◌, ◌<◌}
use native.Mathlib.Nat.{not-suc-le-zero}
use native.Mathlib.Numerals.{add-one}
use native.Mathlib.Decide.{ℕ_discrete}
use native.Mathlib.Omega.{arith}
use Rattle.recording_layout.specs.Definition.{each_below}

pub and_false : (a : Bool) → (a && false) ≡ false
and_false true = refl
and_false false = refl

pub both : (a b : Bool) → (a && b) ≡ true → (a ≡ true) × (b ≡ true)
both true b e = (refl, e)
both false b e = absurd (true≢false (sym e))

-- one that fails
pub fails : (n : ℕ) (f : ℕ → Bool) (i : ℕ) → i < n → f i ≡ false → each_below n f ≡ false
unfolding each_below
fails zero f i h e = absurd (not-suc-le-zero h)
fails (suc n) f i h e = go (ℕ_discrete i n) (λ k. fails n f i k e)
  where
    go : Dec (i ≡ n) → (i < n → each_below n f ≡ false) → (each_below n f && f n) ≡ false
    go (yes p) before = ap (λ (b : Bool). each_below n f && b) (ap f (sym p) ∙ e) ∙ and_false (each_below n f)
    go (no p) before = ap (λ (b : Bool). b && f n) (before (omega arith))

-- one more that passes
pub passes : (i : ℕ) (f : ℕ → Bool) → each_below i f ≡ true → f i ≡ true → each_below (i + 1) f ≡ true
unfolding each_below
passes i f e p = rw (add-one, e) p

-- all of them do
pub all : (n : ℕ) (f : ℕ → Bool) → ((i : ℕ) → i < n → f i ≡ true) → each_below n f ≡ true
unfolding each_below
all zero f h = refl
all (suc n) f h = ap (λ (b : Bool). b && f n) (all n f (λ i k. h i (omega arith))) ∙ h n (omega arith)

pub at : (n : ℕ) (f : ℕ → Bool) → each_below n f ≡ true → (i : ℕ) → i < n → f i ≡ true
unfolding each_below
at zero f e i h = absurd (not-suc-le-zero h)
at (suc n) f e i h = go (ℕ_discrete i n) (at n f (both (each_below n f) (f n) e).0 i)
  where
    go : Dec (i ≡ n) → (i < n → f i ≡ true) → f i ≡ true
    go (yes p) before = ap f p ∙ (both (each_below n f) (f n) e).1
    go (no p) before = before (omega arith)

-- two tests that agree
pub same : (n : ℕ) (f g : ℕ → Bool) → ((i : ℕ) → i < n → f i ≡ g i) → each_below n f ≡ each_below n g
unfolding each_below
same zero f g h = refl
same (suc n) f g h = rw (same n f g (λ i k. h i (omega arith)), h n (omega arith))

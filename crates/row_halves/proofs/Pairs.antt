-- From the halves of a row to its vectors. An operation f on vectors goes by halves where g does to each half what f does to both.
-- Assumes nothing.
use mathlib.Core.Path.{◌≡◌, refl, sym, ap, ap₂, ◌∙◌, subst}
use Prim.Native.Nat.{ℕ, zero, suc, ◌+◌, ◌*◌, ◌/◌, ◌%◌, ◌^◌, ◌<◌, ◌≤◌}
use native.Mathlib.Numerals.{add-one}
use native.Mathlib.Omega.{arith}
use mathlib.Core.Bool.{Bool, true, false, cond}
use mathlib.Core.List.{List, [], ◌∷◌, map}
use mir.Syntax.{w64}
use mir.Val.{Fits}
use borrow.Author.Tests.{eqb-true}
use lib.Dec.{eqb}
use lib.ListN.{length, get_or, set, length-set}
use borrow.Author.Rules.{rules}
use Rattle.std.specs.Prelude.{Result, Ok, Err, IsErr}
use Rattle.standard_refusal.specs.declared.Refusal.{Refusal}
use Rattle.standard_refusal.specs.Number.{number_of, code_of}
use Rattle.standard_refusal.proofs.Numbers.{not_0}
use Rattle.standard.specs.Integer.{ipopcnt}
use Rattle.standard.specs.Lanes.{unary, zip}
use Rattle.standard.proofs.Digits.{low_digit, rest_digits}
use Rattle.standard.proofs.Halves.{unary_halves}
use Rattle.standard.proofs.Loop.{zip_map}
use Rattle.packed_half.specs.Half.{half_unary}
use Rattle.row_halves.specs.Rows.{vectors, halves, half_refusal, after, ByHalves}
use Rattle.row_halves.proofs.Upto.{Each, Upto, same, next, full}

-- rows that are not refused: equally long, and even
pub fits : (n m : ℕ) → half_refusal n m ≡ 0 → (n ≡ m) × (n % 2 ≡ 0)
fits n m e = by (eqb (n % 2) 0) refl (eqb n m) refl e
  where
    by : (p : Bool) → eqb (n % 2) 0 ≡ p → (q : Bool) → eqb n m ≡ q → ◌≡◌ {A = ℕ} (cond p (cond q 0 12) 12) 0 → (n ≡ m) × (n % 2 ≡ 0)
    by true ep true eq e = (eqb-true n m eq, eqb-true (n % 2) 0 ep)
    by true ep false eq e = omega (arith, e)
    by false ep q eq e = omega (arith, e)

-- what a turn of the loop finds and leaves: two halves, and g of them
abbrev pub Halved : (ℕ → ℕ → ℕ) → ℕ → ℕ → ℕ → Type 0
Halved g x y z = (x < 2 ^ 64) × ((y < 2 ^ 64) × ((z < 2 ^ 64) × (z ≡ g x y)))

pub paired : (f g : ℕ → ℕ → ℕ) → ByHalves f g → (xs ys zs : List ℕ) → length xs % 2 ≡ 0 → Each (Halved g) xs ys zs → zs
    ≡ halves (zip f (vectors xs) (vectors ys))
paired f g by [] [] [] even e = refl
paired f g by [] [] (z ∷ zs) even e = absurd e
paired f g by [] (y ∷ ys) zs even e = absurd e
paired f g by (x ∷ xs) [] zs even e = absurd e
paired f g by (x ∷ xs) (y ∷ ys) [] even e = absurd e
paired f g by (x ∷ []) (y ∷ ys) (z ∷ zs) even e = absurd (omega (arith, even))
paired f g by (x ∷ x' ∷ xs) (y ∷ []) (z ∷ zs) even e = absurd e.1
paired f g by (x ∷ x' ∷ xs) (y ∷ y' ∷ ys) (z ∷ []) even e = absurd e.1
paired f g by (x ∷ x' ∷ xs) (y ∷ y' ∷ ys) (z ∷ z' ∷ zs) even (low, (high, rest)) =
    let whole : z + 2 ^ 64 * z' ≡ f (x + 2 ^ 64 * x') (y + 2 ^ 64 * y') = ap₂ (λ (l h : ℕ). l + 2 ^ 64 * h) low.1.1.1 high.1.1.1
    ∙ by x x' y y' low.0 low.1.0 in
    ap₂ ◌∷◌ (sym (low_digit 64 z z' low.1.1.0) ∙ ap (λ (v : ℕ). v % 2 ^ 64) whole)
    (ap₂ ◌∷◌ (sym (rest_digits 64 z z' low.1.1.0) ∙ ap (λ (v : ℕ). v / 2 ^ 64) whole) (paired f g by xs ys zs (omega (arith, even)) rest))

-- The loop's invariant over the halves, at its start, after a turn and at its end.
abbrev pub Turning : (ℕ → ℕ → ℕ) → List ℕ → List ℕ → List ℕ → ℕ → Type 0
Turning g xs ys zs i = (i ≤ length xs) × ((length zs ≡ length xs) × ((length ys ≡ length xs) × Upto (Halved g) i xs ys zs))

pub turned : (g : ℕ → ℕ → ℕ) (xs ys zs : List ℕ) (i r : ℕ) → Turning g xs ys zs i → i < length xs → Fits w64 (get_or zs i 0)
    → Fits w64 (get_or ys i 0) → r < 2 ^ 64 → r ≡ g (get_or zs i 0) (get_or ys i 0) → Turning g xs ys (set zs i r) (i + 1)
turned g xs ys zs i r (h, (lz, (ly, u))) less fz fy fr e =
    let was = same (Halved g) i xs ys zs 0 u in
    let done = next (Halved g) i xs ys zs 0 r less (omega (arith, ly)) u
    (subst (λ (x : ℕ). x < 2 ^ 64) was fz.fits, (fy.fits, (fr, e ∙ ap (λ (x : ℕ). g x (get_or ys i 0)) was))) in
    (omega (arith, less), (length-set zs i r ∙ lz, (ly, subst (λ (k : ℕ). Upto (Halved g) k xs ys (set zs i r)) (sym (add-one i)) done)))

pub all_turned : (f g : ℕ → ℕ → ℕ) → ByHalves f g → (xs ys zs : List ℕ) (i : ℕ) → length xs % 2 ≡ 0 → length xs ≤ i → Turning g xs ys zs i → zs
    ≡ halves (zip f (vectors xs) (vectors ys))
all_turned f g by xs ys zs i even over (h, (lz, (ly, u))) =
    let at_end : i ≡ length xs = omega (arith, over, h) in
    paired f g by xs ys zs even (full (Halved g) xs ys zs (sym ly) (subst (λ (k : ℕ). Upto (Halved g) k xs ys zs) at_end u))

-- one row, as a row beside itself
pub all_counted : (xs zs : List ℕ) (i : ℕ) → length xs % 2 ≡ 0 → length xs ≤ i → Turning (λ x y. half_unary 8 (ipopcnt 8) x) xs xs zs i → zs
    ≡ halves (map (unary 8 (ipopcnt 8)) (vectors xs))
unfolding half_unary
all_counted xs zs i even over t =
    all_turned (λ u v. unary 8 (ipopcnt 8) u) (λ x y. half_unary 8 (ipopcnt 8) x)
    (λ a b c d ha hc. unary_halves 8 8 refl refl a b ha (ipopcnt 8) refl refl) xs xs zs i even over t
    ∙ ap halves (zip_map (unary 8 (ipopcnt 8)) (vectors xs))

-- a refused call leaves the row
pub kept : {A : Type 0} (r : Result A Refusal) (written before : List ℕ) → IsErr r → before ≡ after (code_of r) written before
kept (Ok x) written before e = absurd (search rules)
kept (Err q) written before e = by (number_of q) (not_0 q)
  where
    by : (n : ℕ) → (n ≡ 0 → ⊥) → before ≡ after n written before
    by zero refused = absurd (refused refl)
    by (suc n) refused = refl

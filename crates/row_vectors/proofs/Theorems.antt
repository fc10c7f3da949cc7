-- What follows from the promises: an element is the single operation's, and any two results that a promise allows coincide. Assumes nothing.
use mathlib.Core.Path.{◌≡◌, refl, sym, ap, ap₂, ◌∙◌}
use mathlib.Core.List.{List, [], ◌∷◌, map}
use Prim.Native.Nat.{ℕ, zero, suc, ◌<◌}
use native.Mathlib.Nat.{not-suc-le-zero, le_of_suc-le-suc, suc-ne-zero}
use lib.ListN.{length, get_or}
use Rattle.standard.specs.Lanes.{zip}
use Rattle.standard.proofs.Loop.{zip_map}
use Rattle.simd.specs.Number.{number}
use Rattle.simd.specs.declared.V128.{V128}
use Rattle.simd.proofs.Coincide.{Held, vectors_coincide}
use Rattle.row_halves.specs.Rows.{after}
use Rattle.row_vectors.specs.Rows.{Combined, Mapped}
use Rattle.row_vectors.proofs.Numbers.{alone}

abbrev HeldAll : List V128 → Type 0
HeldAll [] = Unit {0}
HeldAll (v ∷ vs) = Held v × HeldAll vs

abbrev first_of : List ℕ → ℕ
first_of ns = get_or ns 0 0

abbrev rest_of : List ℕ → List ℕ
rest_of [] = []
rest_of (n ∷ ns) = ns

row_coincides : (zs us : List V128) → HeldAll zs → HeldAll us → map number zs ≡ map number us → zs ≡ us
row_coincides [] [] hz hu e = refl
row_coincides [] (u ∷ us) hz hu e = absurd (suc-ne-zero (length (map number us)) (sym (ap length e)))
row_coincides (z ∷ zs) [] hz hu e = absurd (suc-ne-zero (length (map number zs)) (ap length e))
row_coincides (z ∷ zs) (u ∷ us) (hz, hzs) (hu, hus) e = ap₂ ◌∷◌ (vectors_coincide z u hz hu (ap first_of e)) (row_coincides zs us hzs hus (ap rest_of e))

-- the refusal, and every vector that is left
pub combined_coincide : (f : ℕ → ℕ → ℕ) (xs ys : List V128) (r q : ℕ) (zs us : List V128) → HeldAll zs → HeldAll us → Combined f xs ys r zs
    → Combined f xs ys q us → (r ≡ q) × (zs ≡ us)
combined_coincide f xs ys r q zs us hz hu (er, ez) (eq, eu) =
    let same : r ≡ q = er ∙ sym eq in
    (same, row_coincides zs us hz hu (ez ∙ ap (λ (n : ℕ). after n (zip f (map number xs) (map number ys)) (map number xs)) same ∙ sym eu))

pub mapped_coincide : (f : ℕ → ℕ) (xs zs us : List V128) → HeldAll zs → HeldAll us → Mapped f xs zs → Mapped f xs us → zs ≡ us
mapped_coincide f xs zs us hz hu ez eu = row_coincides zs us hz hu (ez ∙ sym eu)

-- a place of two rows
at_place : (f : ℕ → ℕ → ℕ) (i : ℕ) (xs ys zs : List V128) (d : V128) → i < length xs → i < length ys → map number zs ≡ zip f (map number xs) (map number ys)
    → number (get_or zs i d) ≡ f (number (get_or xs i d)) (number (get_or ys i d))
at_place f i [] ys zs d hx hy e = absurd (not-suc-le-zero hx)
at_place f i (x ∷ xs) [] zs d hx hy e = absurd (not-suc-le-zero hy)
at_place f i (x ∷ xs) (y ∷ ys) [] d hx hy e = absurd (suc-ne-zero _ (sym (ap length e)))
at_place f zero (x ∷ xs) (y ∷ ys) (z ∷ zs) d hx hy e = ap first_of e
at_place f (suc i) (x ∷ xs) (y ∷ ys) (z ∷ zs) d hx hy e = at_place f i xs ys zs d (le_of_suc-le-suc hx) (le_of_suc-le-suc hy) (ap rest_of e)

-- "Equal, element by element, to the single operation": at each place i of rows that are not refused, f of the two vectors
pub element : (f : ℕ → ℕ → ℕ) (xs ys zs : List V128) (i : ℕ) (d : V128) → i < length xs → i < length ys → Combined f xs ys 0 zs → number (get_or zs i d)
    ≡ f (number (get_or xs i d)) (number (get_or ys i d))
element f xs ys zs i d hx hy (e, ez) = at_place f i xs ys zs d hx hy ez

-- and at each place i of one row, f of the vector
pub element_alone : (f : ℕ → ℕ) (xs zs : List V128) (i : ℕ) (d : V128) → i < length xs → Mapped f xs zs → number (get_or zs i d) ≡ f (number (get_or xs i d))
element_alone f xs zs i d h e = at_place (alone f) i xs xs zs d h h (e ∙ sym (zip_map f (map number xs)))

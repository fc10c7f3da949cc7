-- From an operation on two vectors, or on one, to rows of them, by their numbers.
-- Assumes nothing.
use mathlib.Core.Path.{◌≡◌, refl, sym, ap, ap₂, ◌∙◌, subst}
use mathlib.Core.Bool.{cond}
use mathlib.Core.List.{List, [], ◌∷◌, map}
use Prim.Native.Nat.{ℕ, ◌+◌, ◌<◌, ◌≤◌}
use native.Mathlib.Numerals.{add-one}
use native.Mathlib.Omega.{arith}
use borrow.Author.Tests.{eq-eqb, ne_eqb}
use lib.ListN.{length, get_or, set, length-set}
use Rattle.standard.specs.Lanes.{zip}
use Rattle.standard.proofs.Loop.{zip_map}
use Rattle.simd.specs.Number.{number}
use Rattle.simd.specs.declared.V128.{V128}
use Rattle.row_halves.proofs.Upto.{Each, Upto, same, next, full}
use Rattle.row_vectors.specs.Rows.{Combined, Mapped}

-- what the operation g on numbers promises of two vectors and its result
abbrev pub Does : (ℕ → ℕ → ℕ) → V128 → V128 → V128 → Type 0
Does g u v r = number r ≡ g (number u) (number v)

-- an operation on one vector, as one on two that does not look at the second
abbrev pub alone : (ℕ → ℕ) → ℕ → ℕ → ℕ
alone g a b = g a

-- what is read past a row's end, which no code does
abbrev pub none : V128
none = record { lo = 0; hi = 0 }

-- The invariant of a loop `first[i] = f(first[i], second[i])` over rows of vectors xs and ys, at its start, after a turn and at its end: zs is what stands in
-- the first row. A loop over one row is that row beside itself.
abbrev pub Turning : (ℕ → ℕ → ℕ) → List V128 → List V128 → List V128 → ℕ → Type 0
Turning g xs ys zs i = (i ≤ length xs) × ((length zs ≡ length xs) × ((length xs ≡ length ys) × Upto (Does g) i xs ys zs))

pub turned : (g : ℕ → ℕ → ℕ) (xs ys zs : List V128) (i : ℕ) (d r : V128) → Turning g xs ys zs i → i < length zs
    → number r ≡ g (number (get_or zs i d)) (number (get_or ys i d)) → Turning g xs ys (set zs i r) (i + 1)
turned g xs ys zs i d r (h, (lz, (ly, u))) less e =
    let in_first : i < length xs = omega (arith, less, lz) in
    let in_second : i < length ys = omega (arith, less, lz, ly) in
    let does : Does g (get_or xs i d) (get_or ys i d) r = e ∙ ap (λ (v : V128). g (number v) (number (get_or ys i d))) (same (Does g) i xs ys zs d u) in
    let done = next (Does g) i xs ys zs d r in_first in_second u does in
    (omega (arith, in_first), (length-set zs i r ∙ lz, (ly, subst (λ (k : ℕ). Upto (Does g) k xs ys (set zs i r)) (sym (add-one i)) done)))

pub all_turned : (g : ℕ → ℕ → ℕ) (xs ys zs : List V128) (i : ℕ) → length zs ≤ i → Turning g xs ys zs i → Each (Does g) xs ys zs
all_turned g xs ys zs i over (h, (lz, (ly, u))) =
    let at_end : i ≡ length xs = omega (arith, over, h, lz) in
    full (Does g) xs ys zs ly (subst (λ (k : ℕ). Upto (Does g) k xs ys zs) at_end u)

each_number : (g : ℕ → ℕ → ℕ) (xs ys zs : List V128) → Each (Does g) xs ys zs → map number zs ≡ zip g (map number xs) (map number ys)
each_number g [] [] [] e = refl
each_number g [] [] (z ∷ zs) e = absurd e
each_number g [] (y ∷ ys) zs e = absurd e
each_number g (x ∷ xs) [] zs e = absurd e
each_number g (x ∷ xs) (y ∷ ys) [] e = absurd e
each_number g (x ∷ xs) (y ∷ ys) (z ∷ zs) (e, es) = ap₂ ◌∷◌ e (each_number g xs ys zs es)

pub combined : (g : ℕ → ℕ → ℕ) (xs ys zs : List V128) → length xs ≡ length ys → Each (Does g) xs ys zs → Combined g xs ys 0 zs
combined g xs ys zs even e = (sym (ap (λ b. cond b 0 12) (eq-eqb (length xs) (length ys) even)), each_number g xs ys zs e)

pub uneven : (g : ℕ → ℕ → ℕ) (xs ys : List V128) → (length xs ≡ length ys → ⊥) → Combined g xs ys 12 xs
uneven g xs ys differ = (sym (ap (λ b. cond b 0 12) (ne_eqb (length xs) (length ys) differ)), refl)

pub mapped : (g : ℕ → ℕ) (xs zs : List V128) → Each (Does (alone g)) xs xs zs → Mapped g xs zs
mapped g xs zs e = each_number (alone g) xs xs zs e ∙ zip_map g (map number xs)

-- Of the refusals' numbers: none is 0, and no two refusals have one. Assumes nothing.
use mathlib.Core.Path.{◌≡◌, refl, sym, ap, ◌∙◌}
use mathlib.Core.List.{List, [], ◌∷◌}
use lib.ListN.{get_or}
use Prim.Native.Nat.{ℕ, ◌-◌, ◌<◌}
use native.Mathlib.Omega.{arith}
use Rattle.std.specs.Prelude.{Result, Ok, Err}
use Rattle.standard_refusal.specs.Number.{number_of, code_of}
use Rattle.standard_refusal.specs.declared.Refusal.{Refusal}

pub above_0 : (r : Refusal) → 0 < number_of r
above_0 Refusal.List = omega arith
above_0 Refusal.Operation = omega arith
above_0 Refusal.Register = omega arith
above_0 Refusal.Lane = omega arith
above_0 Refusal.Index = omega arith
above_0 Refusal.Kind = omega arith
above_0 Refusal.Past = omega arith
above_0 Refusal.Tolerance = omega arith
above_0 Refusal.Frame = omega arith
above_0 Refusal.Buffer = omega arith
above_0 Refusal.Nowhere = omega arith
above_0 Refusal.Rows = omega arith
above_0 Refusal.Blocks = omega arith
above_0 Refusal.Check = omega arith
above_0 Refusal.Layout = omega arith
above_0 Refusal.Output = omega arith
above_0 Refusal.Limit = omega arith
above_0 Refusal.Links = omega arith
above_0 Refusal.Place = omega arith

pub not_0 : (r : Refusal) → number_of r ≡ 0 → ⊥
not_0 r e = let h = above_0 r in omega arith

-- in the order of their numbers, from 1 on
refusals : List Refusal
refusals =
    Refusal.List ∷ Refusal.Operation ∷ Refusal.Register ∷ Refusal.Lane ∷ Refusal.Index ∷ Refusal.Kind ∷ Refusal.Past ∷
    Refusal.Tolerance ∷ Refusal.Frame ∷ Refusal.Buffer ∷ Refusal.Nowhere ∷ Refusal.Rows ∷ Refusal.Blocks ∷ Refusal.Check ∷
    Refusal.Layout ∷ Refusal.Output ∷ Refusal.Limit ∷ Refusal.Links ∷ Refusal.Place ∷ []

back : (r : Refusal) → r ≡ get_or refusals (number_of r - 1) Refusal.Place
unfolding refusals
back Refusal.List = refl
back Refusal.Operation = refl
back Refusal.Register = refl
back Refusal.Lane = refl
back Refusal.Index = refl
back Refusal.Kind = refl
back Refusal.Past = refl
back Refusal.Tolerance = refl
back Refusal.Frame = refl
back Refusal.Buffer = refl
back Refusal.Nowhere = refl
back Refusal.Rows = refl
back Refusal.Blocks = refl
back Refusal.Check = refl
back Refusal.Layout = refl
back Refusal.Output = refl
back Refusal.Limit = refl
back Refusal.Links = refl
back Refusal.Place = refl

pub same_number : (a b : Refusal) → number_of a ≡ number_of b → a ≡ b
same_number a b e = back a ∙ ap (λ (n : ℕ). get_or refusals (n - 1) Refusal.Place) e ∙ sym (back b)

-- a result that is no refusal has the number 0
pub unrefused : {A : Type 0} (r : Result A Refusal) → ((e : Refusal) → r ≡ Err e → ⊥) → code_of r ≡ 0
unrefused (Ok x) n = refl
unrefused (Err e) n = absurd (n e refl)

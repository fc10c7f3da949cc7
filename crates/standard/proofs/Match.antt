-- The last arm of a match on a number: the number is none of those below n, so it is n or more, and past the end of a table of n operations.
-- Assumes nothing.
use mathlib.Core.Path.{◌≡◌, sym, ap}
use mathlib.Core.List.{List}
use lib.ListN.{length, get_or, get_or-eq_default}
use Prim.Native.Nat.{ℕ, zero, suc, ◌≤◌, zero-le}
use lib.Arith.{lt_of_le-ne}

abbrev pub NoneBelow : ℕ → ℕ → Type 0
NoneBelow op zero = Unit {0}
NoneBelow op (suc n) = NoneBelow op n × (op ≡ n → ⊥)

pub past : (op n : ℕ) → NoneBelow op n → n ≤ op
past op zero u = zero-le
past op (suc n) u = lt_of_le-ne (past op n u.0) (λ e. u.1 (sym e))

-- the table gives 0
pub no_unary : (fs : List (ℕ → ℕ)) (op x : ℕ) → length fs ≤ op → 0 ≡ get_or fs op (λ a. 0) x
no_unary fs op x h = sym (ap (λ (f : ℕ → ℕ). f x) (get_or-eq_default fs (λ a. 0) h))

pub no_binary : (fs : List (ℕ → ℕ → ℕ)) (op a b : ℕ) → length fs ≤ op → 0 ≡ get_or fs op (λ x y. 0) a b
no_binary fs op a b h = sym (ap (λ (f : ℕ → ℕ → ℕ). f a b) (get_or-eq_default fs (λ x y. 0) h))

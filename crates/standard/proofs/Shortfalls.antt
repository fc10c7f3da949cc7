-- Order 9 in numbers, in one table, with one theorem: how far past the end an access is, exactly, and what its refusal 7 gives.
-- Assumes nothing.
use mathlib.Core.Path.{◌≡◌, refl}
use mathlib.Core.List.{List, [], ◌∷◌, map}
use Prim.Native.Nat.{ℕ, ◌+◌, ◌-◌, ◌^◌}
use lib.ListN.{replicate}
use Rattle.standard.specs.Memory.{Accessed, past, within}

pub record Case : Type 0 where
  pub length : ℕ
  pub pointer : ℕ
  pub offset : ℕ
  pub bytes : ℕ
  pub exact : ℕ
  pub told : ℕ

pub cases : List Case
cases =
    record { length = 16; pointer = 1; offset = 0; bytes = 16; exact = 1; told = 1 }
    -- the largest exact end
    ∷ record { length = 0; pointer = 2 ^ 64 - 1; offset = 2 ^ 64 - 1; bytes = 16; exact = 2 ^ 65 + 14; told = 2 ^ 64 - 1 }
    -- the least that is held, and the largest that is not
    ∷ record { length = 0; pointer = 2 ^ 64 - 1; offset = 0; bytes = 1; exact = 2 ^ 64; told = 2 ^ 64 - 1 }
    ∷ record { length = 5; pointer = 2 ^ 64 - 4; offset = 0; bytes = 8; exact = 2 ^ 64 - 1; told = 2 ^ 64 - 1 }
    -- a sum that passes 2^64, and is not held
    ∷ record { length = 16; pointer = 2 ^ 64 - 1; offset = 1; bytes = 1; exact = 2 ^ 64 + 1 - 16; told = 2 ^ 64 + 1 - 16 }
    ∷ []

-- the exact end minus the length, and the answer of the bounds test over a memory of zeros
pub worked_out : Case → ℕ × Accessed ℕ
unfolding within
worked_out c = (
  c.pointer + c.offset + c.bytes - c.length,
  within (replicate c.length 0) (c.pointer + c.offset) c.bytes (c.pointer + c.offset),
)

pub shortfalls_hold : map worked_out cases ≡ map (λ (c : Case). (c.exact, past 7 c.told)) cases
unfolding cases worked_out
shortfalls_hold = refl

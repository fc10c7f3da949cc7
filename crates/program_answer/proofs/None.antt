-- Nothing is written where there is nothing to say. Assumes nothing.
use Prim.Native.Nat.{ℕ}
use native.Mathlib.Omega.{arith}
use mathlib.Core.Path.{refl}
use mathlib.Core.List.{List, []}
use lib.ListN.{length}
use Rattle.program_digits.specs.Put.{Filled}
use Rattle.program_digits.proofs.Puts.{no_more, filled}

pub none : (out : List ℕ) → Filled out [] out 0
none out = filled {n = length out} (omega arith) refl (no_more out 0)

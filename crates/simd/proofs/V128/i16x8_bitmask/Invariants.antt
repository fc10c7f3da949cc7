-- `simd::V128::i16x8_bitmask` meets its contract: a loop from the top lane down. Assumes nothing.
use Prim.Native.Nat.{◌≤◌}
use mathlib.Core.Path.{◌≡◌}
use mathlib.Core.List.{map}
use lib.ListN.{drop}
use Rattle.standard.specs.Lanes.{joined}
use Rattle.standard.proofs.Reduce.{sign_of}
use Rattle.simd.proofs.V128.i16x8_bitmask.Given as goal

abbrev pub invariant-loop-i : goal.invariant-loop-i
invariant-loop-i l = (l.i ≤ 8) × (l.mask ≡ joined 1 (map (sign_of 16) (drop l.i l.a)))

abbrev pub decreases-loop-i : goal.decreases-loop-i
decreases-loop-i l = l.i

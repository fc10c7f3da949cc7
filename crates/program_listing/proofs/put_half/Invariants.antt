-- `program_listing::put_half` meets its contract. Assumes nothing.
use Prim.Native.Nat.{◌-◌, ◌≤◌}
use mathlib.Core.Path.{◌≡◌}
use lib.ListN.{length}
use Rattle.standard.specs.Lanes
use Rattle.program_digits.specs.Digits.{hex_bytes}
use Rattle.program_digits.proofs.Puts.{Completes}
use Rattle.program_listing.proofs.put_half.Given as goal

abbrev pub invariant-loop-i : goal.invariant-loop-i
invariant-loop-i l =
    (l.i ≤ 8) × (length l.out ≡ length l.initial.out)
    × Completes l.initial.out l.at (hex_bytes (Lanes.digits 8 8 l.half)) l.out l.next (hex_bytes (Lanes.digits 8 (8 - l.i) l.rest))

abbrev pub decreases-loop-i : goal.decreases-loop-i
decreases-loop-i l = 8 - l.i

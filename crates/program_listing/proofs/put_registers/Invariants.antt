-- `program_listing::put_registers` meets its contract. Assumes nothing.
use Prim.Native.Nat.{◌-◌, ◌≤◌}
use mathlib.Core.Path.{◌≡◌}
use mathlib.Core.List.{map}
use lib.ListN.{length, drop}
use Rattle.simd.specs.Number.{number}
use Rattle.program_digits.proofs.Puts.{Completes}
use Rattle.program_listing.specs.Listing.{register_lines}
use Rattle.program_listing.proofs.put_registers.Given as goal

abbrev pub invariant-loop-i : goal.invariant-loop-i
invariant-loop-i l =
    (l.i ≤ 16) × (length l.out ≡ length l.initial.out) × Completes l.initial.out l.at (register_lines 0 (map number l.all) l.writers) l.out l.next
    (register_lines l.i (drop l.i (map number l.all)) (drop l.i l.writers))

abbrev pub decreases-loop-i : goal.decreases-loop-i
decreases-loop-i l = 16 - l.i

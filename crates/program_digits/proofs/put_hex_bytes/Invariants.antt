-- `program_digits::put_hex_bytes` meets its contract. Assumes nothing.
use Prim.Native.Nat.{◌≤◌}
use mathlib.Core.Path.{◌≡◌}
use lib.ListN.{length, take}
use Rattle.program_digits.specs.Digits.{hex_bytes}
use Rattle.program_digits.specs.Put.{Wrote}
use Rattle.program_digits.proofs.put_hex_bytes.Given as goal

abbrev pub invariant-loop-byte : goal.invariant-loop-byte
invariant-loop-byte l =
    (l.byte-index ≤ length l.bytes) × (length l.out ≡ length l.initial.out) × Wrote l.initial.out l.at (hex_bytes (take l.byte-index l.bytes)) l.out l.next

-- `scan::bytes_in` is safe and ends. Assumes nothing.
use Prim.Native.Nat.{◌≤◌}
use Rattle.scan.proofs.bytes_in.Given as goal

abbrev pub invariant-loop-c : goal.invariant-loop-c
invariant-loop-c l = l.value ≤ 1152921504606846976

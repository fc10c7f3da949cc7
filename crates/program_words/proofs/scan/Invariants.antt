-- `program_words::scan` meets its contract: what is still to be scanned answers for the whole. Assumes nothing.
use Prim.Native.Nat.{◌+◌}
use mathlib.Core.Path.{◌≡◌}
use lib.ListN.{length, drop}
use Rattle.program_words.specs.Cut.{before}
use Rattle.program_words.specs.Stops.{stops}
use Rattle.program_words.proofs.scan.Given as goal

abbrev pub invariant-loop-i : goal.invariant-loop-i
invariant-loop-i l = length (before (stops l.what) l.rest) ≡ l.i + length (before (stops l.what) (drop l.i l.rest))

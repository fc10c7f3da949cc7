-- `program_words::statement` meets its contract: what is still to be read answers for the whole. Assumes nothing.
use Prim.Native.Nat.{◌+◌}
use mathlib.Core.Path.{◌≡◌}
use lib.ListN.{length, drop}
use Rattle.program_words.specs.Cut.{statement as of-line}
use Rattle.program_words.proofs.statement.Given as goal

abbrev pub invariant-loop-i : goal.invariant-loop-i
invariant-loop-i l = length (of-line l.line) ≡ l.i + length (of-line (drop l.i l.line))

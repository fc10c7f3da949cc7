-- `program_words::lines` meets its contract: a line for each line's end that is passed. Assumes nothing.
use Prim.Native.Nat.{◌+◌}
use mathlib.Core.Path.{◌≡◌}
use lib.ListN.{take}
use Rattle.std.specs.List.{count_by}
use Rattle.program_words.specs.Cut.{newline}
use Rattle.program_words.proofs.lines.Given as goal

abbrev pub invariant-loop-c : goal.invariant-loop-c
invariant-loop-c l = l.lines ≡ 1 + count_by newline (take l.c-index l.text)

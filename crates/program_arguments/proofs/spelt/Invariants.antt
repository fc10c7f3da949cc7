-- `program_arguments::spelt` meets its contract: what the characters still to come make of the value read is the answer. Assumes nothing.
use Prim.Native.Nat.{◌^◌, ◌<◌, ◌≤◌}
use mathlib.Core.Path.{◌≡◌}
use lib.ListN.{length, drop}
use Rattle.program_arguments.specs.Arguments.{numeral}
use Rattle.program_arguments.proofs.spelt.Given as goal

abbrev pub invariant-loop-c : goal.invariant-loop-c
invariant-loop-c l = (l.c-index ≤ length l.text) × (l.value < 2 ^ 32) × (numeral l.base 0 l.text ≡ numeral l.base l.value (drop l.c-index l.text))

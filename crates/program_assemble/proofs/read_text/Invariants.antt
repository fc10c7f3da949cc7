-- `program_assemble::read_text` meets its contract: each turn reads one line. Assumes nothing.
use Prim.Native.Nat.{◌-◌}
use mathlib.Core.Path.{◌≡◌}
use lib.ListN.{length}
use Rattle.program_assemble.proofs.Texts.{SoFar}
use Rattle.program_assemble.proofs.read_text.Given as goal

abbrev pub invariant-loop-taken : goal.invariant-loop-taken
invariant-loop-taken l = (length l.out ≡ length l.initial.out) × SoFar l.text l.initial.out l.out l.from l.at l.steps l.line

abbrev pub decreases-loop-taken : goal.decreases-loop-taken
decreases-loop-taken l = length l.text - l.from

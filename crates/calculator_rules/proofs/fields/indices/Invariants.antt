-- `calculator_rules::fields::indices` meets its contract: its first i bytes are gathered. Assumes nothing.
use mathlib.Core.Path.{◌≡◌}
use Prim.Native.Nat.{◌-◌, ◌≤◌}
use lib.ListN.{length, take}
use Rattle.calculator_rules.specs.Definition.{bytes}
use Rattle.calculator_rules.proofs.fields.indices.Given as goal

abbrev pub invariant-loop-i : goal.invariant-loop-i
invariant-loop-i l = (l.i ≤ 16) × (length l.r ≡ 16) × (take l.i l.r ≡ bytes l.s 16 l.i)

abbrev pub decreases-loop-i : goal.decreases-loop-i
decreases-loop-i l = 16 - l.i

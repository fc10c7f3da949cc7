-- `program_line::take_fields` meets its contract: the fields still to be taken answer for all. Assumes nothing.
use Prim.Native.Nat.{◌+◌, ◌-◌, ◌≤◌}
use mathlib.Core.Path.{◌≡◌}
use lib.ListN.{length}
use Rattle.std.specs.Prelude.{Ok}
use Rattle.program_fields.specs.Values.{field_of}
use Rattle.program_line.specs.Line.{take_fields}
use Rattle.program_line.specs.Reads.{state_of}
use Rattle.program_line.proofs.take_fields.Given as goal

abbrev pub invariant-loop-i : goal.invariant-loop-i
invariant-loop-i l =
    (l.i ≤ l.count) × (l.r.at ≤ length l.line) × (take_fields (field_of l.kind) (l.count - l.i) (l.place + l.i) (state_of l.line (Ok l.r))
    ≡ take_fields (field_of l.kind) l.count l.place (state_of l.line (Ok l.initial.r)))

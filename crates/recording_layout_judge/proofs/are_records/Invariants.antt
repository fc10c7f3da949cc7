-- `recording_layout_judge::are_records` meets its contract. Assumes nothing.
use mathlib.Core.Path.{◌≡◌}
use mathlib.Core.Bool.{true}
use Rattle.recording_layout.specs.Definition.{each_below, record_at_laid}
use Rattle.recording_layout_judge.proofs.are_records.Given as goal

abbrev pub invariant-loop-i : goal.invariant-loop-i
invariant-loop-i l = each_below l.i (record_at_laid l.n l.k l.b) ≡ true

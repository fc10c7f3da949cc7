-- `recording_layout_judge::all_laid` meets its contract. Assumes nothing.
use mathlib.Core.Path.{◌≡◌}
use mathlib.Core.Bool.{true}
use Rattle.recording_layout.specs.Definition.{each_below, laid_block}
use Rattle.recording_layout_judge.proofs.all_laid.Given as goal

abbrev pub invariant-loop-k : goal.invariant-loop-k
invariant-loop-k l = each_below l.k (laid_block l.file) ≡ true

-- `recording_mending::mend` meets its contract. Assumes nothing.
use mathlib.Core.Path.{sym, ◌∙◌}
use Rattle.recording_layout.proofs.Files.{whole}
use Rattle.recording_mending.proofs.mend.Goals as goal

pub mend_blocks-requires : goal.mend_blocks-requires
mend_blocks-requires c = record {
  file_bound = (whole _ (sym c.is_whole.ensures ∙ c.if-not-is_whole.false)).most;
  file_in_bounds = c.if-out-file.false;
}

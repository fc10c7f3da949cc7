-- `recording_layout_judge::judge` meets its contract: what its callees require. Assumes nothing.
use mathlib.Core.Path.{sym, ◌∙◌}
use Rattle.recording_layout.proofs.Files.{whole}
use Rattle.recording_layout_judge.proofs.judge.Goals as goal

pub all_laid-requires : goal.all_laid-requires
all_laid-requires c = (whole _ (sym c.is_whole.ensures ∙ c.if-not-is_whole.false)).most

pub count_records-requires : goal.count_records-requires
count_records-requires c = (whole _ (sym c.is_whole.ensures ∙ c.if-not-is_whole.false)).least

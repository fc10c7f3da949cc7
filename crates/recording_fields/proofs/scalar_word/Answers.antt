-- `recording_fields::scalar_word` meets its contract. Assumes nothing.
use mathlib.Core.Path.{sym, ◌∙◌}
use Rattle.recording_fields.proofs.Words.{narrow_word}
use Rattle.recording_fields.proofs.scalar_word.Goals as goal

pub returns-then-is_wide : goal.returns-then-is_wide
returns-then-is_wide c = rw (sym c.before.is_wide.ensures ∙ c.if-is_wide.true)

pub returns-else-is_wide : goal.returns-else-is_wide
returns-else-is_wide c = rw (sym c.before.is_wide.ensures ∙ c.if-is_wide.false) (narrow_word c.args.bits)

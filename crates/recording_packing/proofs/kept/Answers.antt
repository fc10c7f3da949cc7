-- `recording_packing::kept` meets its contract. Assumes nothing.
use borrow.Author.Tests.{lt-ltb, le-ltb}
use Rattle.recording_packing.proofs.kept.Goals as goal

pub returns-then-i-end : goal.returns-then-i-end
returns-then-i-end c = rw (lt-ltb _ _ c.if-i-end.true)

pub returns-else-i-end : goal.returns-else-i-end
returns-else-i-end c = rw (le-ltb _ _ c.if-i-end.false)

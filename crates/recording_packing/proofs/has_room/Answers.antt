-- `recording_packing::has_room` meets its contract. Assumes nothing.
use borrow.Author.Tests.{le-leb, lt-leb}
use Rattle.recording_packing.proofs.has_room.Goals as goal

pub returns-then-records-gt16384 : goal.returns-then-records-gt16384
returns-then-records-gt16384 c = rw (lt-leb _ _ c.if-records-gt16384.true)

pub returns : goal.returns
returns c = rw (le-leb _ _ c.if-records-gt16384.false)

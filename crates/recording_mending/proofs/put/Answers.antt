-- `recording_mending::put` meets its contract. Assumes nothing.
use Rattle.recording_crc16.specs.Remainder.{◌⊕◌}
use Rattle.recording_mending_rules.specs.Definition.{flipped}
use Rattle.recording_mending.proofs.put.Goals as goal

pub returns-in-Some : goal.returns-in-Some
unfolding flipped ◌⊕◌
returns-in-Some c = rw (c.in-Some.is, c.copy_from_slice.ensures.after, c.weight.ensures)

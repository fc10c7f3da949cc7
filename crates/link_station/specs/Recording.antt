-- What C is handed of the recorder and of a replay. What says nothing is 0 or false.
use Rattle.std.specs.Prelude.{ℕ, Bool, true, false, List}
use Rattle.recording_rules.specs.Definition.{Recorded, wrote, empty, short, rejected}
use Rattle.recording_fields.specs.Definition.{Answer, agrees, differs, refused}
use Rattle.link_station.specs.declared.recorded.RecordAnswer.{RecordAnswer}
use Rattle.link_station.specs.declared.recorded.ReplayAnswer.{ReplayAnswer}

unfoldable pub recorder_numbers : Recorded → ℕ × Bool × Bool × ℕ
recorder_numbers (wrote n) = (n, false, false, 0)
recorder_numbers empty = (0, true, false, 0)
recorder_numbers short = (0, false, true, 0)
recorder_numbers (rejected n) = (0, false, false, n)

abbrev pub record_numbers : RecordAnswer → ℕ × Bool × Bool × ℕ
record_numbers r = (r.bytes, r.empty, r.overflow, r.refused)

-- with every byte of the buffer afterwards
abbrev pub left_by_recorder : Recorded × List ℕ → (ℕ × Bool × Bool × ℕ) × List ℕ
left_by_recorder p = (recorder_numbers p.0, p.1)

unfoldable pub replayed : Answer → ℕ × ℕ
replayed agrees = (0, 0)
replayed (differs n) = (n, 0)
replayed (refused n) = (0, n)

abbrev pub replay_numbers : ReplayAnswer → ℕ × ℕ
replay_numbers r = (r.differs, r.refused)

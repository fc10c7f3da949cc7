-- What the program `show` writes of a file, in ASCII codes: each record of a recording as text, with what the definition gives where that differs, and then the
-- line that `replay` writes.
use Rattle.std.specs.Prelude.{ℕ, zero, suc, List, [], ◌++◌, take}
use Rattle.calculator_rules.specs.Definition.{Machine, start}
use Rattle.recording_layout.specs.Definition as layout
use Rattle.recording_layout.specs.Definition.{record_at, judged}
use Rattle.recording_rules.specs.Definition as records
use Rattle.recording_rules.specs.Definition.{trace_of, next}
use Rattle.program_recordings.specs.Lines.{replay}
use Rattle.program_record.specs.Record.{record_text}

-- the record that the definition gives for a step at a place
abbrev pub given : ℕ → Machine → List ℕ → List ℕ
given place m s = s ++ trace_of place m s

-- The records that are left of a file, from a place on. A record's number counts from 1.
unfoldable pub show_from : ℕ → ℕ → List ℕ → Machine → List ℕ
show_from zero place file m = []
show_from (suc left) place file m =
    record_text (suc place) (record_at file place) (given place m (take 32 (record_at file place)))
    ++ show_from left (suc place) file (next place m (take 32 (record_at file place)))

abbrev pub show_judged : layout.Judged → List ℕ → List ℕ
show_judged (layout.recording n) file = show_from n 0 file start
show_judged (layout.refused n) file = []

unfoldable pub show_text : List ℕ → List ℕ
show_text file = show_judged (judged file) file ++ replay (records.replay file)

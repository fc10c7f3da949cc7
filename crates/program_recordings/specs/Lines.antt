-- What `replay`, `record` and `mend` write beside files, as lists of ASCII codes. The names and their order are document 02's; where it leaves the text open,
-- docs/GUIDE.md's.
use Rattle.std.specs.Prelude.{ℕ, suc, Bool, cond, List, [], ◌∷◌, ◌++◌, ltb, eqb}
use Rattle.recording_fields.specs.Definition as trace
use Rattle.recording_rules.specs.Definition as records
use Rattle.recording_mending_rules.specs.Definition as mending
use Rattle.program_digits.specs.Codes.{codes}
use Rattle.program_digits.specs.Lines.{named, count_line}

-- `replay` (order 8): "agrees", "else the first record that isn't, counted from 1", or the number of the refusal
unfoldable pub replay : trace.Answer → List ℕ
replay trace.agrees = codes "agrees\n"
replay (trace.differs n) = count_line "record " n
replay (trace.refused n) = count_line "refused " n

-- `record` (order 8), on standard error: nothing where there is a recording
unfoldable pub record_said : records.Recorded → List ℕ
record_said (records.wrote n) = []
record_said records.empty = codes "the list is empty\n"
record_said records.short = codes "record: no room\n"
record_said (records.rejected n) = count_line "refused " n

-- `mend` (order 10), on standard error: the number of the refusal; or a line for each bit put back, of the blocks from number k on, and one for the block at
-- which it stopped
abbrev pub bit_line : ℕ → ℕ → List ℕ
bit_line k b = cond (ltb b 4096) (named "block " k ++ count_line " bit " b) []

unfoldable pub bit_lines : ℕ → List ℕ → List ℕ
bit_lines k [] = []
bit_lines k (b ∷ bs) = bit_line k b ++ bit_lines (suc k) bs

abbrev pub stop_line : Bool → ℕ → List ℕ
stop_line stopped k = cond stopped (named "block " k ++ codes " not mended\n") []

unfoldable pub mend_said : mending.Mending → List ℕ
mend_said m = cond (eqb m.refusal 0) (bit_lines 0 m.bits ++ stop_line m.stopped m.blocks) (count_line "refused " m.refusal)

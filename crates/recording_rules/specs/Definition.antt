-- Field recordings (document 02, order 8): what a replay answers, and what the recorder writes, by the calculator's step.
use Rattle.std.specs.Prelude.{ℕ, zero, suc, ◌/◌, cond, List, [], ◌++◌, leb, eqb, length, get_or, take, drop}
use Rattle.standard.specs.Refusal as calculator
use Rattle.standard.specs.Instruction.{kind_number, instruction}
use Rattle.calculator_rules.specs.Definition.{Machine, start, operation, destination, profile, step, list_refusal}
use Rattle.recording_fields.specs.Definition.{trace, Answer, agrees, differs, refused, compared}
use Rattle.recording_layout.specs.Definition as layout
use Rattle.recording_layout.specs.Definition.{record_at, judged}
use Rattle.recording_packing.specs.Definition.{packed}

-- "the 16-byte vector written (zeros if none)": the destination's, in the state after the step.
abbrev pub written : List ℕ → Machine → ℕ
written s next = cond (profile (instruction (operation s))).gives_vector (get_or next.registers (destination s) 0) 0

-- What a step leaves in its record. A refused step writes nothing and leaves the scalar as it was.
abbrev pub left_by : List ℕ → Machine → calculator.Answer Machine → List ℕ
left_by s m (calculator.given next) = trace (written s next) 0 (kind_number next.kind) next.bits
left_by s m (calculator.refused n) = trace 0 n (kind_number m.kind) m.bits

unfoldable pub trace_of : ℕ → Machine → List ℕ → List ℕ
trace_of place m s = left_by s m (step place m s)

-- The state from which the next step starts.
abbrev pub going_on : Machine → calculator.Answer Machine → Machine
going_on m (calculator.given next) = next
going_on m (calculator.refused n) = m

unfoldable pub next : ℕ → Machine → List ℕ → Machine
next place m s = going_on m (step place m s)

-- "agrees" where this record does and all later ones do, "else the first record that isn't".
abbrev pub onward : Answer → Answer → Answer
onward agrees later = later
onward (differs n) later = differs n
onward (refused n) later = refused n

-- The records that are left of a file, from a place on.
unfoldable pub replay_from : ℕ → ℕ → List ℕ → Machine → Answer
replay_from zero place file m = agrees
replay_from (suc left) place file m =
    onward (compared place (record_at file place) (trace_of place m (take 32 (record_at file place))))
    (replay_from left (suc place) file (next place m (take 32 (record_at file place))))

-- "A replay starts from zero registers and i32 0".
abbrev pub replay_judged : layout.Judged → List ℕ → Answer
replay_judged (layout.recording n) file = replay_from n 0 file start
replay_judged (layout.refused n) file = refused n

unfoldable pub replay : List ℕ → Answer
replay file = replay_judged (judged file) file

abbrev pub further : calculator.Answer Machine → (Machine → List ℕ) → List ℕ
further (calculator.given next) go = go next
further (calculator.refused n) go = []

-- The records of a run: of each step that is done, and of the one that is refused, which is the last.
unfoldable pub records_from : ℕ → ℕ → List ℕ → Machine → List ℕ
records_from zero place list m = []
records_from (suc left) place list m =
    take 32 list ++ trace_of place m (take 32 list)
    ++ further (step place m (take 32 list)) (λ next. records_from left (suc place) (drop 32 list) next)

unfoldable pub records_of : List ℕ → List ℕ
records_of list = records_from (length list / 32) 0 list start

unfoldable pub recording : List ℕ → List ℕ
recording list = packed (records_of list)

-- What the recorder answers: how many bytes it wrote, or why it wrote none.
pub data Recorded : Type 0 where
  wrote : ℕ → Recorded
  empty : Recorded
  short : Recorded
  rejected : ℕ → Recorded

-- with every byte of the buffer afterwards
abbrev pub written_if_room : List ℕ → List ℕ → Recorded × List ℕ
written_if_room file out = cond (leb (length file) (length out)) (wrote (length file), file ++ drop (length file) out) (short, out)

unfoldable pub recorded : List ℕ → List ℕ → Recorded × List ℕ
recorded list out =
    cond (eqb (list_refusal (length list) 0 256) 0) (cond (eqb (length list) 0) (empty, out) (written_if_room (recording list) out))
    (rejected (list_refusal (length list) 0 256), out)

-- The calculator (document 01, "The calculator (added)", and document 02's orders): a step and a run, for every list of bytes and every start, over
-- the standard's table. In plain numbers: it knows nothing of marks, halves or code.
use Rattle.std.specs.Prelude.{ℕ, zero, suc, ◌+◌, ◌-◌, ◌*◌, ◌/◌, ◌%◌, Bool, true, false, cond, List, [], ◌∷◌, ◌++◌, length, get_or, set, take, drop, replicate, ltb, leb, eqb}
use Rattle.standard.specs.Lanes.{joined}
use Rattle.standard.specs.Vector.{shuffle}
use Rattle.standard.specs.Refusal.{Answer, given, refused, legal}
use Rattle.standard.specs.Instruction.{Kind, kind_number, i32, Instruction, none, memory, const, shuffled, vector₁, vector₂, vector₃, shifted, tested, splatted}
use Rattle.standard.specs.Instruction.{extracted, replaced, instruction}

-- "State: 16 registers and one scalar. The scalar is an i32, an i64, an f32 or an f64": its kind and its bits. "Each register shall carry, beside its
-- vector, the number of the step that last wrote it in this run, 1 to 256, or 0 if none" (order 1).
pub record Machine : Type 0 where
  pub registers : List ℕ
  pub writers : List ℕ
  pub kind : Kind
  pub bits : ℕ

-- "starts from zero registers and scalar i32 0"
abbrev pub start : Machine
start = record { registers = replicate 16 0; writers = replicate 16 0; kind = i32; bits = 0 }

-- the state with no number
abbrev pub reset : Machine → Machine
reset m = record { registers = m.registers; writers = replicate 16 0; kind = m.kind; bits = m.bits }

-- "A step is 32 bytes": the n of them from a place on, and the number that they stand for. "Numbers are little-endian."
abbrev pub bytes : List ℕ → ℕ → ℕ → List ℕ
bytes s at zero = []
bytes s at (suc n) = get_or s at 0 ∷ bytes s (suc at) n

abbrev pub field : List ℕ → ℕ → ℕ → ℕ
field s at n = joined 8 (bytes s at n)

-- "0..1 operation, the standard's number after the 0xFD prefix; 2 destination; 3, 4, 5 sources a, b, c; 6 lane"
abbrev pub operation : List ℕ → ℕ
operation s = field s 0 2

abbrev pub destination : List ℕ → ℕ
destination s = get_or s 2 0

abbrev pub sources : List ℕ → List ℕ
sources s = bytes s 3 3

abbrev pub lane : List ℕ → ℕ
lane s = get_or s 6 0

-- "16..31 the constant of v128.const or the sixteen shuffle indices"
abbrev pub constant : List ℕ → ℕ
constant s = field s 16 16

abbrev pub indices : List ℕ → List ℕ
indices s = bytes s 16 16

-- What the refusals of a step ask of an instruction.
pub record Profile : Type 0 where
  -- 2: "operation number without a calculator step: not carried over, a load or a store, or no instruction"
  pub has_step : Bool
  -- "The vector operands, in the standard's order, are a, b, c"; "splat takes no source register": how many there are
  pub operands : ℕ
  -- "The destination is used only where the result is a vector."
  pub gives_vector : Bool
  -- the lane count; "fields that an operation does not use are ignored": 256 there, which every byte is below
  pub lane_count : ℕ
  -- whether the sixteen indices are used
  pub shuffles : Bool
  -- the kind of the scalar that is read, if one is: "splat and replace read it. The kind must be the standard's for that instruction."; "shift steps take
  -- [the count] from the scalar" (order 2)
  pub reads : List Kind

abbrev pub from_vectors : ℕ → Profile
from_vectors n =
    record { has_step = true; operands = n; gives_vector = true; lane_count = 256; shuffles = false; reads = [] }

abbrev pub no_step : Profile
no_step = record { has_step = false; operands = 0; gives_vector = false; lane_count = 256; shuffles = false; reads = [] }

abbrev pub profile : Instruction → Profile
profile none = no_step
profile memory = no_step
profile const = from_vectors 0
profile shuffled = record { has_step = true; operands = 2; gives_vector = true; lane_count = 256; shuffles = true; reads = [] }
profile (vector₁ f) = from_vectors 1
profile (vector₂ f) = from_vectors 2
profile (vector₃ f) = from_vectors 3
profile (shifted f) = record { has_step = true; operands = 1; gives_vector = true; lane_count = 256; shuffles = false; reads = i32 ∷ [] }
profile (tested f) = record { has_step = true; operands = 1; gives_vector = false; lane_count = 256; shuffles = false; reads = [] }
profile (splatted k f) = record { has_step = true; operands = 0; gives_vector = true; lane_count = 256; shuffles = false; reads = k ∷ [] }
profile (extracted k w f) = record { has_step = true; operands = 1; gives_vector = false; lane_count = 128 / w; shuffles = false; reads = [] }
profile (replaced k w f) = record { has_step = true; operands = 1; gives_vector = true; lane_count = 128 / w; shuffles = false; reads = k ∷ [] }

-- 3: "a used register number above 15"
abbrev pub used : Profile → List ℕ → List ℕ
used p s = take p.operands (sources s) ++ cond p.gives_vector (destination s ∷ []) []

abbrev pub all_registers : List ℕ → Bool
all_registers [] = true
all_registers (r ∷ rs) = cond (leb r 15) (all_registers rs) false

-- 6: "scalar of the wrong kind"
abbrev pub right_kind : List Kind → Kind → Bool
right_kind [] held = true
right_kind (k ∷ ks) held = eqb (kind_number held) (kind_number k)

-- The refusals of a step, "checked in the order 1 to 7"; 0 for none.
abbrev pub unless : Bool → ℕ → ℕ → ℕ
unless ok n later = cond ok later n

-- 4: "lane not below the lane count"; 5: "a shuffle index above 31"
unfoldable pub refusal : Profile → Kind → List ℕ → ℕ
refusal p held s =
    unless p.has_step 2
    (unless (all_registers (used p s)) 3
    (unless (ltb (lane s) p.lane_count) 4
    (unless (cond p.shuffles (legal (indices s)) true) 5
    (unless (right_kind p.reads held) 6 0))))

-- The vector of a source, and the state with a vector at the destination, or with another scalar. A place in the list counts from 0, and a step's number
-- from 1.
abbrev pub source : Machine → List ℕ → ℕ → ℕ
source m s j = get_or m.registers (get_or (sources s) j 0) 0

abbrev pub put : ℕ → Machine → List ℕ → ℕ → Machine
put place m s v =
    record {
      registers = set m.registers (destination s) v;
      writers = set m.writers (destination s) (suc place);
      kind = m.kind;
      bits = m.bits;
    }

abbrev pub hold : Machine → Kind → ℕ → Machine
hold m k b = record { registers = m.registers; writers = m.writers; kind = k; bits = b }

-- What a step at a place that is not refused leaves. "Sources are read before the destination is written". "Extract, bitmask, any-true and all-true set
-- [the scalar] (the last three as i32); splat and replace read it." The count of a shift is the scalar "read as unsigned 32 bits" (order 2), which the bits
-- of an i32 are.
unfoldable pub effect : Instruction → ℕ → Machine → List ℕ → Machine
effect none place m s = m
effect memory place m s = m
effect const place m s = put place m s (constant s)
effect shuffled place m s = put place m s (shuffle (indices s) (source m s 0) (source m s 1))
effect (vector₁ f) place m s = put place m s (f (source m s 0))
effect (vector₂ f) place m s = put place m s (f (source m s 0) (source m s 1))
effect (vector₃ f) place m s = put place m s (f (source m s 0) (source m s 1) (source m s 2))
effect (shifted f) place m s = put place m s (f m.bits (source m s 0))
effect (tested f) place m s = hold m i32 (f (source m s 0))
effect (splatted k f) place m s = put place m s (f m.bits)
effect (extracted k w f) place m s = hold m k (f (source m s 0) (lane s))
effect (replaced k w f) place m s = put place m s (f (source m s 0) (lane s) m.bits)

-- A step at a place: the state after it, or the number of its refusal.
abbrev pub answer : ℕ → Machine → Answer Machine
answer n m = cond (eqb n 0) (given m) (refused n)

unfoldable pub step : ℕ → Machine → List ℕ → Answer Machine
unfolding refusal effect
step place m s =
    answer (refusal (profile (instruction (operation s))) m.kind s) (effect (instruction (operation s)) place m s)

-- How a run stops (order 12): "a list with no step left has ended"; "stopped at the limit with steps left, it answers "paused" and where, counted from the
-- list's start"; or by the refusal of a step or of the list.
pub data Outcome : Type 0 where
  ended : Outcome
  paused : ℕ → Outcome
  stopped : ℕ → Outcome

-- What a run leaves. "The count is the number of steps before the refused one, or all"; it "reports the steps done" (order 12).
pub record Ending : Type 0 where
  pub machine : Machine
  pub done : ℕ
  pub outcome : Outcome

abbrev pub nothing_done : Machine → Outcome → Ending
nothing_done m o = record { machine = m; done = 0; outcome = o }

-- with so many steps done before
abbrev pub counting : ℕ → Ending → Ending
counting n e = record { machine = e.machine; done = n + e.done; outcome = e.outcome }

-- A refused step leaves the "state after the steps before".
abbrev pub after : Answer Machine → (Machine → Ending) → (ℕ → Ending) → Ending
after (given m) go stop = go m
after (refused n) go stop = stop n

-- The steps of 32 bytes each that are left, from a place of the list on and no more of them than the limit. "If the next step would have been refused, that
-- shows only when it is taken up again."
unfoldable pub steps : ℕ → ℕ → ℕ → List ℕ → Machine → Ending
steps zero limit place list m = nothing_done m ended
steps (suc left) zero place list m = nothing_done m (paused place)
steps (suc left) (suc limit) place list m =
    after (step place m (take 32 list)) (λ next. counting 1 (steps left limit (suc place) (drop 32 list) next))
    (λ n. nothing_done m (stopped n))

-- The refusals of a list by its number of bytes; 0 for none. 17: "limit above 256, tested before 1"; 1: "list length not a multiple of 32, or above 8,192";
-- 19: "a place to take up from that is above the list's number of steps, tested after 1".
abbrev pub whole_steps : ℕ → Bool
whole_steps n = cond (eqb (n % 32) 0) (leb n 8192) false

abbrev pub list_refusal : ℕ → ℕ → ℕ → ℕ
list_refusal n place limit =
    unless (leb limit 256) 17
    (unless (whole_steps n) 1
    (unless (leb place (n / 32)) 19 0))

-- "A run resets all of them to 0 as it starts, before its first step is judged" (order 1); "taking up above place 0 does not reset them" (order 12).
abbrev pub taken_up : ℕ → Machine → Machine
taken_up place m = cond (eqb place 0) (reset m) m

-- A run of a list from a place under a limit. A refused list leaves all as it was: "with either, nothing done"; "0 steps, state as given".
unfoldable pub run : List ℕ → ℕ → ℕ → Machine → Ending
run list place limit m =
    cond (eqb (list_refusal (length list) place limit) 0)
    (steps (length list / 32 - place) limit place (drop (32 * place) list) (taken_up place m))
    (nothing_done m (stopped (list_refusal (length list) place limit)))

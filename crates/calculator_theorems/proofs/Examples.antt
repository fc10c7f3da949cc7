-- The definition's run, computed: document 01's example of two steps, the numbers of order 1 and each refusal in one table with one theorem; order 12's runs;
-- order 2's shifts; and the lengths that pass. Assumes nothing.
use mathlib.Core.Path.{◌≡◌, refl}
use mathlib.Core.Bool.{true, false, cond}
use mathlib.Core.List.{List, [], ◌∷◌, ◌++◌, map}
use Prim.Native.Nat.{ℕ}
use lib.IntN.{pos, neg_ℤ}
use lib.ListN.{replicate, set}
use lib.Dec.{eqb}
use Rattle.standard.specs.Lanes.{joined, unary, extract}
use Rattle.standard.specs.Integer.{modulo}
use Rattle.standard.specs.Refusal.{given}
use Rattle.standard.specs.Instruction.{i32, table, instruction}
use Rattle.calculator_rules.specs.Definition.{Machine, Outcome, ended, paused, stopped, Ending, refusal, effect, step, steps, whole_steps, run}

ending : List ℕ → List ℕ → ℕ → Outcome → Ending
ending registers writers done outcome =
    record { machine = record { registers = registers; writers = writers; kind = i32; bits = 0 }; done = done; outcome = outcome }

-- of the whole list: the number of a refusal, 0 for none
whole : List ℕ → List ℕ → ℕ → ℕ → Ending
unfolding ending
whole registers writers done number = ending registers writers done (cond (eqb number 0) ended (stopped number))

upto : List ℕ
upto = 0 ∷ 1 ∷ 2 ∷ 3 ∷ 4 ∷ 5 ∷ 6 ∷ 7 ∷ 8 ∷ 9 ∷ 10 ∷ 11 ∷ 12 ∷ 13 ∷ 14 ∷ 15 ∷ []

-- a step: operation, destination, source a, lane; and its last sixteen bytes
a_step : ℕ → ℕ → ℕ → ℕ → List ℕ → List ℕ
a_step op d a lane rest = op ∷ 0 ∷ d ∷ a ∷ 0 ∷ 0 ∷ lane ∷ replicate 9 0 ++ rest

-- document 01's two steps: v128.const of bytes 0 to 15 into 1, then i8x16.popcnt (98) from 1 into 2
two : List ℕ
unfolding a_step upto
two = a_step 12 1 0 0 upto ++ a_step 98 2 1 0 (replicate 16 0)

-- the registers of its listing
listing : List ℕ
unfolding upto
listing =
    set (set (replicate 16 0) 1 (joined 8 upto)) 2
    (joined 8 (0 ∷ 1 ∷ 1 ∷ 2 ∷ 1 ∷ 2 ∷ 2 ∷ 3 ∷ 1 ∷ 2 ∷ 2 ∷ 3 ∷ 2 ∷ 3 ∷ 3 ∷ 4 ∷ []))

-- and their numbers: "in document 01's listing the two lines then end in " 1" and " 2"" (order 1)
numbers : List ℕ
numbers = set (set (replicate 16 0) 1 1) 2 2

-- a start with numbers of an earlier run
left_over : List ℕ
left_over = replicate 16 9

pub earlier : Machine
unfolding left_over
earlier = record { registers = replicate 16 0; writers = left_over; kind = i32; bits = 0 }

pub record Case : Type 0 where
  pub list : List ℕ
  pub expected : Ending

pub cases : List Case
unfolding whole a_step upto two listing numbers left_over
cases =
    record { list = two; expected = whole listing numbers 2 0 }
    -- the last step that wrote register 1 is the third
    ∷ record { list = two ++ a_step 12 1 0 0 upto; expected = whole listing (set numbers 1 3) 3 0 }
    -- an empty list does 0 steps with 0; 65 bytes are refused, and leave the numbers as they were; a first step that is refused does not
    ∷ record { list = []; expected = whole (replicate 16 0) (replicate 16 0) 0 0 }
    ∷ record { list = 0 ∷ two; expected = whole (replicate 16 0) left_over 0 1 }
    ∷ record { list = a_step 0 0 0 0 upto ++ two; expected = whole (replicate 16 0) (replicate 16 0) 0 2 }
    -- after two steps: a load; register 16; lane 16, and 15, of i8x16; index 32; a splat of an i64
    ∷ record { list = two ++ a_step 0 0 0 0 (replicate 16 0); expected = whole listing numbers 2 2 }
    ∷ record { list = two ++ a_step 12 16 0 0 (replicate 16 0); expected = whole listing numbers 2 3 }
    ∷ record { list = two ++ a_step 22 255 1 16 (replicate 16 0); expected = whole listing numbers 2 4 }
    ∷ record { list = two ++ a_step 22 255 3 15 (replicate 16 0); expected = whole listing numbers 3 0 }
    ∷ record { list = two ++ a_step 13 0 0 0 (32 ∷ replicate 15 31); expected = whole listing numbers 2 5 }
    ∷ record { list = two ++ a_step 18 0 0 0 (replicate 16 0); expected = whole listing numbers 2 6 }
    ∷ []

pub examples_hold : map (λ (c : Case). run c.list 0 256 earlier) cases ≡ map (λ (c : Case). c.expected) cases
unfolding cases earlier run steps step refusal effect instruction table unary extract
examples_hold = refl

-- Order 12: document 01's two steps, or these and a load, from a place under a limit.
pub record Lease : Type 0 where
  pub list : List ℕ
  pub place : ℕ
  pub limit : ℕ
  pub expected : Ending

-- the two steps and a load
three : List ℕ
unfolding two a_step
three = two ++ a_step 0 0 0 0 (replicate 16 0)

pub leases : List Lease
unfolding ending upto two three listing numbers left_over
leases =
    -- one step; none, which still resets the numbers; met exactly at the end
    record { list = two; place = 0; limit = 1; expected = ending (set (replicate 16 0) 1 (joined 8 upto)) (set (replicate 16 0) 1 1) 1 (paused 1) }
    ∷ record { list = two; place = 0; limit = 0; expected = ending (replicate 16 0) (replicate 16 0) 0 (paused 0) }
    ∷ record { list = two; place = 0; limit = 2; expected = ending listing numbers 2 ended }
    -- taken up above place 0: the numbers stay, and count from the list's start
    ∷ record { list = two; place = 1; limit = 256; expected = ending (replicate 16 0) (set left_over 2 2) 1 ended }
    ∷ record { list = two; place = 2; limit = 0; expected = ending (replicate 16 0) left_over 0 ended }
    -- a refusal shows only when it is taken up
    ∷ record { list = three; place = 0; limit = 2; expected = ending listing numbers 2 (paused 2) }
    ∷ record { list = three; place = 2; limit = 1; expected = ending (replicate 16 0) left_over 0 (stopped 2) }
    ∷ record { list = three; place = 0; limit = 3; expected = ending listing numbers 2 (stopped 2) }
    -- 17 before 1, 1 before 19, 19
    ∷ record { list = 0 ∷ two; place = 3; limit = 257; expected = ending (replicate 16 0) left_over 0 (stopped 17) }
    ∷ record { list = 0 ∷ two; place = 3; limit = 256; expected = ending (replicate 16 0) left_over 0 (stopped 1) }
    ∷ record { list = two; place = 3; limit = 256; expected = ending (replicate 16 0) left_over 0 (stopped 19) }
    ∷ []

pub leases_hold : map (λ (c : Lease). run c.list c.place c.limit earlier) leases ≡ map (λ (c : Lease). c.expected) leases
unfolding leases earlier run steps step refusal effect instruction table unary
leases_hold = refl

-- Order 2: register 1, whose lowest 32-bit lane begins and ends in a one, shifted into register 0 by a scalar; bytes 8..11 of the step hold other numbers.
pub lane : ℕ
lane = 2147483649

pub holding : ℕ → ℕ → ℕ → Machine
unfolding lane
holding vector number scalar =
    record { registers = vector ∷ lane ∷ []; writers = number ∷ 0 ∷ []; kind = i32; bits = scalar }

pub a_shift : ℕ → List ℕ
a_shift op = op ∷ 0 ∷ 0 ∷ 1 ∷ 0 ∷ 0 ∷ 0 ∷ 0 ∷ replicate 4 3

pub record Shift : Type 0 where
  pub op : ℕ
  pub scalar : ℕ
  pub expected : ℕ

-- −1 shifts a 32-bit lane by 31: i32x4.shl, shr_s, shr_u; 8 leaves the lanes of i8x16.shl as they are
pub shift_cases : List Shift
unfolding lane
shift_cases =
    record { op = 171; scalar = modulo 32 (neg_ℤ (pos 1)); expected = 2147483648 }
    ∷ record { op = 172; scalar = modulo 32 (neg_ℤ (pos 1)); expected = 4294967295 }
    ∷ record { op = 173; scalar = modulo 32 (neg_ℤ (pos 1)); expected = 1 }
    ∷ record { op = 107; scalar = 8; expected = lane }
    ∷ []

pub shifts_hold : map (λ (c : Shift). step 0 (holding 0 0 c.scalar) (a_shift c.op)) shift_cases
    ≡ map (λ (c : Shift). given (holding c.expected 1 c.scalar)) shift_cases
unfolding holding a_shift shift_cases step refusal effect instruction table unary
shifts_hold = refl

-- "8,192 bytes pass; 8,160 pass; 8,191, 8,193 and 8,224 are refused; an empty list does 0 steps with 0."
pub lengths_that_pass : map whole_steps (0 ∷ 32 ∷ 8160 ∷ 8192 ∷ 8191 ∷ 8193 ∷ 8224 ∷ []) ≡ true ∷ true ∷ true ∷ true ∷ false ∷ false ∷ false ∷ []
lengths_that_pass = refl

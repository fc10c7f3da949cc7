-- What C hands the calculator and is handed of it, as plain numbers.
use Rattle.std.specs.Prelude.{ℕ, ◌%◌, ◌^◌, cond, List, eqb}
use Rattle.standard.specs.Instruction.{Kind, kind_number, i32, i64, f32, f64}
use Rattle.standard.specs.Refusal.{Answer, given, refused}
use Rattle.calculator_rules.specs.Definition.{Machine, Outcome, ended, paused, stopped, Ending}
use Rattle.calculator_state.specs.State.{vectors}
use Rattle.link_station.specs.declared.calculation.RunAnswer.{RunAnswer}
use Rattle.link_station.specs.declared.calculation.StepAnswer.{StepAnswer}

-- the scalar of a kind's number, i32 where there is no such kind; of a kind of 32 bits the low bits count
unfoldable pub told : ℕ → ℕ → Kind × ℕ
told k b =
    cond (eqb k (kind_number i64)) (i64, b)
    (cond (eqb k (kind_number f32)) (f32, b % 2 ^ 32)
    (cond (eqb k (kind_number f64)) (f64, b) (i32, b % 2 ^ 32)))

abbrev pub scalar_numbers : Kind → ℕ → ℕ × ℕ
scalar_numbers k b = (kind_number k, b)

-- the state of 32 words, two a register, the numbers beside the registers, and the scalar
abbrev pub machine_told : List ℕ → List ℕ → ℕ → ℕ → Machine
machine_told w n k b = record { registers = vectors w; writers = n; kind = (told k b).0; bits = (told k b).1 }

-- where it paused, whether it did, and the number of a refusal
abbrev pub stop_numbers : Outcome → ℕ × ℕ × ℕ
stop_numbers ended = (0, 0, 0)
stop_numbers (paused place) = (place, 1, 0)
stop_numbers (stopped n) = (0, 0, n)

abbrev pub run_numbers : RunAnswer → (ℕ × ℕ) × ℕ × (ℕ × ℕ × ℕ)
run_numbers r = ((r.scalar.kind, r.scalar.bits), r.done, (r.place, cond r.paused 1 0, r.refused))

-- everything that a run leaves: the registers, the numbers beside them, and of the rest the scalar, the steps done and how it stopped
abbrev pub left_by_run : Ending → List ℕ × List ℕ × ((ℕ × ℕ) × ℕ × (ℕ × ℕ × ℕ))
left_by_run e =
    (e.machine.registers, e.machine.writers, (scalar_numbers e.machine.kind e.machine.bits, e.done, stop_numbers e.outcome))

-- a state, with the number of a refusal
abbrev pub machine_numbers : Machine → ℕ → List ℕ × List ℕ × (ℕ × ℕ) × ℕ
machine_numbers m n = (m.registers, m.writers, scalar_numbers m.kind m.bits, n)

-- everything that a step leaves: the state after it, or the state before it where it is refused
abbrev pub left_by_step : Machine → Answer Machine → List ℕ × List ℕ × (ℕ × ℕ) × ℕ
left_by_step before (given m) = machine_numbers m 0
left_by_step before (refused n) = machine_numbers before n

abbrev pub step_numbers : List ℕ → List ℕ → StepAnswer → List ℕ × List ℕ × (ℕ × ℕ) × ℕ
step_numbers registers writers r = (registers, writers, (r.scalar.kind, r.scalar.bits), r.refused)

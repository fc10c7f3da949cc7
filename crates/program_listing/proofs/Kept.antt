-- A run keeps the number of registers. Of the definition's runs. Assumes nothing.
use mathlib.Core.Path.{◌≡◌, refl, ◌∙◌}
use mathlib.Core.Bool.{Bool, true, false, cond}
use mathlib.Core.List.{List}
use Prim.Native.Nat.{ℕ, zero, suc, ◌-◌, ◌*◌, ◌/◌}
use lib.Dec.{eqb}
use lib.ListN.{length, take, drop, length-set}
use Rattle.standard.specs.Refusal.{given, refused}
use Rattle.standard.specs.Instruction.{Instruction, none, memory, const, shuffled, vector₁, vector₂, vector₃, shifted, tested, splatted, extracted, replaced}
use Rattle.standard.specs.Instruction.{instruction}
use Rattle.calculator_rules.specs.Definition.{Machine, stopped, nothing_done, counting, after, operation, profile, refusal, effect, step, steps, reset}
use Rattle.calculator_rules.specs.Definition.{taken_up, list_refusal, run}

effect_kept : (i : Instruction) (place : ℕ) (m : Machine) (s : List ℕ) → length (effect i place m s).registers ≡ length m.registers
unfolding effect
effect_kept none place m s = refl
effect_kept memory place m s = refl
effect_kept const place m s = simp length-set
effect_kept shuffled place m s = simp length-set
effect_kept (vector₁ f) place m s = simp length-set
effect_kept (vector₂ f) place m s = simp length-set
effect_kept (vector₃ f) place m s = simp length-set
effect_kept (shifted f) place m s = simp length-set
effect_kept (tested f) place m s = refl
effect_kept (splatted k f) place m s = simp length-set
effect_kept (extracted k w f) place m s = refl
effect_kept (replaced k w f) place m s = simp length-set

steps_kept : (left limit place : ℕ) (list : List ℕ) (m : Machine) → length (steps left limit place list m).machine.registers ≡ length m.registers
unfolding steps step
steps_kept zero limit place list m = refl
steps_kept (suc left) zero place list m = refl
steps_kept (suc left) (suc limit) place list m = go (eqb n 0) (λ next. steps_kept left limit (suc place) (drop 32 list) next)
  where
    s : List ℕ
    s = take 32 list

    n : ℕ
    n = refusal (profile (instruction (operation (take 32 list)))) m.kind (take 32 list)

    go : (t : Bool) → ((next : Machine) → length (steps left limit (suc place) (drop 32 list) next).machine.registers ≡ length next.registers)
        → length (after (cond t (given (effect (instruction (operation (take 32 list))) place m (take 32 list))) (refused n))
        (λ next. counting 1 (steps left limit (suc place) (drop 32 list) next)) (λ k. nothing_done m (stopped k))).machine.registers
        ≡ length m.registers
    go true later = later _ ∙ effect_kept (instruction (operation (take 32 list))) place m (take 32 list)
    go false later = refl

pub run_kept : (list : List ℕ) (place limit : ℕ) (m : Machine) → length (run list place limit m).machine.registers ≡ length m.registers
unfolding run
run_kept list place limit m = go (eqb (list_refusal (length list) place limit) 0)
  where
    up : (t : Bool) → length (cond t (reset m) m).registers ≡ length m.registers
    up true = refl
    up false = refl

    go : (t : Bool)
        → length (cond t (steps (length list / 32 - place) limit place (drop (32 * place) list) (taken_up place m))
        (nothing_done m (stopped (list_refusal (length list) place limit)))).machine.registers
        ≡ length m.registers
    go true = steps_kept (length list / 32 - place) limit place (drop (32 * place) list) (taken_up place m) ∙ up (eqb place 0)
    go false = refl

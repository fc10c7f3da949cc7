-- `calculator_path::packed_form::test` meets its contract: each arm by its method's promise, at the number that led there. Assumes nothing.
use mathlib.Core.Path.{◌∙◌}
use Rattle.standard.specs.Instruction.{table, instruction}
use Rattle.calculator_path.proofs.packed_form.test.Goals as goal

pub returns-in-83 : goal.returns-in-83
unfolding instruction table
returns-in-83 c = rw c.in-83.is (c.truth.ensures ∙ c.v128_any_true.ensures)

pub returns-in-99 : goal.returns-in-99
unfolding instruction table
returns-in-99 c = rw c.in-99.is (c.truth-in-99.ensures ∙ c.i8x16_all_true.ensures)

pub returns-in-100 : goal.returns-in-100
unfolding instruction table
returns-in-100 c = rw c.in-100.is c.i8x16_bitmask.ensures

pub returns-in-131 : goal.returns-in-131
unfolding instruction table
returns-in-131 c = rw c.in-131.is (c.truth-in-131.ensures ∙ c.i16x8_all_true.ensures)

pub returns-in-132 : goal.returns-in-132
unfolding instruction table
returns-in-132 c = rw c.in-132.is c.i16x8_bitmask.ensures

pub returns-in-163 : goal.returns-in-163
unfolding instruction table
returns-in-163 c = rw c.in-163.is (c.truth-in-163.ensures ∙ c.i32x4_all_true.ensures)

pub returns-in-164 : goal.returns-in-164
unfolding instruction table
returns-in-164 c = rw c.in-164.is c.i32x4_bitmask.ensures

pub returns-in-195 : goal.returns-in-195
unfolding instruction table
returns-in-195 c = rw c.in-195.is (c.truth-in-195.ensures ∙ c.i64x2_all_true.ensures)

pub returns-in-196 : goal.returns-in-196
unfolding instruction table
returns-in-196 c = rw c.in-196.is c.i64x2_bitmask.ensures

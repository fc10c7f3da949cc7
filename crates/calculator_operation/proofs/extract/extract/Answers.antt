-- `calculator_operation::extract::extract` meets its contract: each arm by its method's promise, at the number that led there. Assumes nothing.
use mathlib.Core.Path.{refl, ap, ◌∙◌}
use Rattle.standard.specs.Instruction.{i32, i64, f32, f64, table, instruction}
use Rattle.calculator_families.specs.Family.{families, of_kind}
use Rattle.calculator_families.proofs.Others.{any}
use Rattle.calculator_operation.proofs.extract.extract.Goals as goal

pub returns-in-21 : goal.returns-in-21
unfolding instruction table
returns-in-21 c = rw c.in-21.is (c.of_i32.ensures ∙ ap (of_kind i32) c.i8x16_extract_lane_s.ensures)

pub returns-in-22 : goal.returns-in-22
unfolding instruction table
returns-in-22 c = rw c.in-22.is (c.of_u32.ensures ∙ ap (of_kind i32) c.i8x16_extract_lane_u.ensures)

pub returns-in-24 : goal.returns-in-24
unfolding instruction table
returns-in-24 c = rw c.in-24.is (c.of_i32-in-24.ensures ∙ ap (of_kind i32) c.i16x8_extract_lane_s.ensures)

pub returns-in-25 : goal.returns-in-25
unfolding instruction table
returns-in-25 c = rw c.in-25.is (c.of_u32-in-25.ensures ∙ ap (of_kind i32) c.i16x8_extract_lane_u.ensures)

pub returns-in-27 : goal.returns-in-27
unfolding instruction table
returns-in-27 c = rw c.in-27.is (c.of_i32-in-27.ensures ∙ ap (of_kind i32) c.i32x4_extract_lane.ensures)

pub returns-in-29 : goal.returns-in-29
unfolding instruction table
returns-in-29 c = rw c.in-29.is (c.of_i64.ensures ∙ ap (of_kind i64) c.i64x2_extract_lane.ensures)

pub returns-in-31 : goal.returns-in-31
unfolding instruction table
returns-in-31 c = rw c.in-31.is (c.of_f32.ensures ∙ ap (of_kind f32) c.f32x4_extract_lane.ensures)

pub returns-in-33 : goal.returns-in-33
unfolding instruction table
returns-in-33 c = rw c.in-33.is (c.of_f64.ensures ∙ ap (of_kind f64) c.f64x2_extract_lane.ensures)

pub returns-in_default : goal.returns-in_default
unfolding instruction table
returns-in_default c = rw (any (λ i. (families i).extract) c.args.op refl (search))

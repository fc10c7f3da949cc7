-- `calculator_operation::replace::replace` meets its contract: by the scalar's kind, each arm by its method's promise at the number that led there. Assumes
-- nothing.
use mathlib.Core.Path.{◌≡◌, refl}
use mir.Syntax.{w32, w64}
use mir.Val.{to_z, of_z}
use borrow.Author.Rules.{rules}
use Rattle.standard.specs.Instruction.{i64, f32, f64, table, instruction}
use Rattle.calculator_families.specs.Family.{families}
use Rattle.calculator_families.proofs.Others.{any}
use Rattle.calculator_operation.proofs.replace.replace.Goals as goal

pub returns-in-I32 : goal.returns-in-I32
returns-in-I32 c =
    let e : to_z w32 (of_z w32 c.in-I32.x) ≡ c.in-I32.x = search rules in
    rw (c.in-I32.is, ← e) c.i32_lanes.ensures

pub returns-then-op-eq30 : goal.returns-then-op-eq30
unfolding instruction table
returns-then-op-eq30 c =
    let e : to_z w64 (of_z w64 c.in-I64.x)
    ≡ c.in-I64.x = search rules in
    rw (c.in-I64.is, c.if-op-eq30.true, c.vector.ensures, c.i64x2_replace_lane.ensures, e)

pub returns-else-op-eq30 : goal.returns-else-op-eq30
unfolding instruction table
returns-else-op-eq30 c = rw (c.in-I64.is, any (λ i. (families i).replace i64) _ refl (tt, c.if-op-eq30.false))

pub returns-then-op-eq32 : goal.returns-then-op-eq32
unfolding instruction table
returns-then-op-eq32 c = rw (c.in-F32.is, c.if-op-eq32.true, c.vector-then-op-eq32.ensures, c.f32x4_replace_lane.ensures)

pub returns-else-op-eq32 : goal.returns-else-op-eq32
unfolding instruction table
returns-else-op-eq32 c = rw (c.in-F32.is, any (λ i. (families i).replace f32) _ refl (tt, c.if-op-eq32.false))

pub returns-then-op-eq34 : goal.returns-then-op-eq34
unfolding instruction table
returns-then-op-eq34 c = rw (c.in-F64.is, c.if-op-eq34.true, c.vector-then-op-eq34.ensures, c.f64x2_replace_lane.ensures)

pub returns-else-op-eq34 : goal.returns-else-op-eq34
unfolding instruction table
returns-else-op-eq34 c = rw (c.in-F64.is, any (λ i. (families i).replace f64) _ refl (tt, c.if-op-eq34.false))

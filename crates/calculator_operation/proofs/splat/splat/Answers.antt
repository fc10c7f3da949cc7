-- `calculator_operation::splat::splat` meets its contract: by the scalar's kind, each arm by its method's promise at the number that led there. Assumes
-- nothing.
use mathlib.Core.Path.{◌≡◌, refl}
use mir.Syntax.{w32, w64}
use mir.Val.{to_z, of_z}
use borrow.Author.Rules.{rules}
use Rattle.standard.specs.Instruction.{i64, f32, f64, table, instruction}
use Rattle.calculator_families.specs.Family.{families}
use Rattle.calculator_families.proofs.Others.{any}
use Rattle.calculator_operation.proofs.splat.splat.Goals as goal

pub returns-in-I32 : goal.returns-in-I32
returns-in-I32 c =
    let e : to_z w32 (of_z w32 c.in-I32.x) ≡ c.in-I32.x = search rules in
    rw (c.in-I32.is, ← e) c.i32_lanes.ensures

pub returns-then-op-eq18 : goal.returns-then-op-eq18
unfolding instruction table
returns-then-op-eq18 c =
    let e : to_z w64 (of_z w64 c.in-I64.x) ≡ c.in-I64.x = search rules in
    rw (c.in-I64.is, c.if-op-eq18.true, c.i64x2_splat.ensures, e)

pub returns-else-op-eq18 : goal.returns-else-op-eq18
unfolding instruction table
returns-else-op-eq18 c = rw (c.in-I64.is, any (λ i. (families i).splat i64) _ refl (tt, c.if-op-eq18.false))

pub returns-then-op-eq19 : goal.returns-then-op-eq19
unfolding instruction table
returns-then-op-eq19 c = rw (c.in-F32.is, c.if-op-eq19.true, c.f32x4_splat.ensures)

pub returns-else-op-eq19 : goal.returns-else-op-eq19
unfolding instruction table
returns-else-op-eq19 c = rw (c.in-F32.is, any (λ i. (families i).splat f32) _ refl (tt, c.if-op-eq19.false))

pub returns-then-op-eq20 : goal.returns-then-op-eq20
unfolding instruction table
returns-then-op-eq20 c = rw (c.in-F64.is, c.if-op-eq20.true, c.f64x2_splat.ensures)

pub returns-else-op-eq20 : goal.returns-else-op-eq20
unfolding instruction table
returns-else-op-eq20 c = rw (c.in-F64.is, any (λ i. (families i).splat f64) _ refl (tt, c.if-op-eq20.false))

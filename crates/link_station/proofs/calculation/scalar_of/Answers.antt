-- `link_station::calculation::scalar_of` meets its contract: the kind by its number. Assumes nothing.
use Prim.Native.Nat.{ℕ}
use mathlib.Core.Path.{◌∙◌, ap}
use borrow.Author.Tests.{ne_eqb}
use Rattle.standard.specs.Instruction.{i32, f32}
use Rattle.link_station.specs.Calculate.{told}
use Rattle.link_station.proofs.calculation.scalar_of.Goals as goal

pub returns-then-kind-eq1 : goal.returns-then-kind-eq1
unfolding told
returns-then-kind-eq1 c = rw c.if-kind-eq1.true c.i64_of.ensures

pub returns-then-kind-eq2 : goal.returns-then-kind-eq2
unfolding told
returns-then-kind-eq2 c = rw c.if-kind-eq2.true (c.f32_of.ensures ∙ ap (λ (n : ℕ). (f32, n)) c.low32.ensures)

pub returns-then-kind-eq3 : goal.returns-then-kind-eq3
unfolding told
returns-then-kind-eq3 c = rw c.if-kind-eq3.true c.f64_of.ensures

pub returns : goal.returns
unfolding told
returns c =
    rw (ne_eqb _ _ c.if-kind-eq1.false, ne_eqb _ _ c.if-kind-eq2.false, ne_eqb _ _ c.if-kind-eq3.false)
    (c.of_bits.ensures ∙ ap (λ (n : ℕ). (i32, n)) c.low32-2.ensures)

-- `calculator_step::make` meets its contract: each shape by the promise of what makes its vector. Assumes nothing.
use mathlib.Core.Path.{ap, ◌∙◌}
use mathlib.Core.List.{List}
use Prim.Native.Nat.{ℕ}
use Rattle.standard.specs.Lanes.{joined}
use Rattle.standard.specs.Vector.{shuffle}
use Rattle.standard.specs.Refusal.{at_indices}
use Rattle.simd.specs.Number.{number}
use Rattle.calculator_families.specs.Family.{given_or}
use Rattle.calculator_step.proofs.make.Goals as goal

pub returns-in-None : goal.returns-in-None
returns-in-None c = rw c.in-None.is c.source_a-a.ensures

pub returns-in-Constant : goal.returns-in-Constant
returns-in-Constant c = rw c.in-Constant.is (c.join8.ensures ∙ ap (joined 8) c.indices.ensures)

pub returns-in-Shuffle : goal.returns-in-Shuffle
returns-in-Shuffle c = let a = number c.source_a-a.result in
    let e =
    c.i8x16_shuffle.ensures ∙ ap (λ (is : List ℕ). at_indices is (shuffle is a (number c.source_b.result)))
    c.indices-in-Shuffle.ensures in
    rw (
      c.in-Shuffle.is,
      ← c.source_a-a.ensures,
      ← c.source_b.ensures,
    )
    (c.vector.ensures ∙ ap (given_or a) e)

pub returns-in-Unary : goal.returns-in-Unary
returns-in-Unary c = rw (c.in-Unary.is, ← c.source_a-a.ensures) c.unary.ensures

pub returns-in-Binary : goal.returns-in-Binary
returns-in-Binary c = rw (c.in-Binary.is, ← c.source_a-a.ensures, ← c.source_b-in-Binary.ensures)
    c.binary.ensures

pub returns-in-Ternary : goal.returns-in-Ternary
returns-in-Ternary c = rw (
  c.in-Ternary.is,
  ← c.source_a-a.ensures,
  ← c.source_b-in-Ternary.ensures,
  ← c.source_c.ensures,
) c.ternary.ensures

pub returns-in-Shift : goal.returns-in-Shift
returns-in-Shift c = rw c.in-Shift.is (cc)

pub returns-in-Test : goal.returns-in-Test
returns-in-Test c = rw c.in-Test.is c.source_a-a.ensures

pub returns-in-Splat : goal.returns-in-Splat
returns-in-Splat c = rw c.in-Splat.is c.splat.ensures

pub returns-in-Extract : goal.returns-in-Extract
returns-in-Extract c = rw c.in-Extract.is c.source_a-a.ensures

pub returns-in-Replace : goal.returns-in-Replace
returns-in-Replace c = rw c.in-Replace.is (cc)

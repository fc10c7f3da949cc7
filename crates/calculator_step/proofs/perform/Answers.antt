-- `calculator_step::perform` meets its contract: another scalar, or a vector in the destination. Assumes nothing.
use mathlib.Core.Path.{refl, ap, ◌∙◌}
use Rattle.standard.specs.Instruction.{instruction}
use Rattle.calculator_scalar.specs.Scalar.{scalar_of}
use Rattle.calculator_state.specs.State.{held}
use Rattle.calculator_step.proofs.Performed.{another_scalar, another_register, stored, gives}
use Rattle.calculator_step.proofs.perform.Goals as goal

pub returns-in-None : goal.returns-in-None
returns-in-None c =
    let u = c.unwritten.ensures in
    record {
      state = λ n. rw (u.0, c.in-None.is) refl;
      vector = rw c.in-None.is u.1;
    }

pub returns-in-Test : goal.returns-in-Test
returns-in-Test c =
    let u = c.unwritten-in-Test.ensures in
    let w = c.args.w.now in record {
      state = λ n.
          rw (c.in-Test.is, ← c.source_a.ensures, ← c.test.ensures)
          (another_scalar w n c.unwritten-in-Test.result.scalar (ap scalar_of u.0 ∙ c.of_bits.ensures));
      vector = rw c.in-Test.is u.1;
    }

pub returns-in-Extract : goal.returns-in-Extract
returns-in-Extract c =
    let u = c.unwritten-in-Extract.ensures in
    let w = c.args.w.now in record {
      state = λ n.
          rw (c.in-Extract.is, ← c.source_a-in-Extract.ensures, ← c.byte-in-Extract.ensures)
          (another_scalar w n c.unwritten-in-Extract.result.scalar (ap scalar_of u.0 ∙ c.extract.ensures));
      vector = rw c.in-Extract.is u.1;
    }

pub returns-in_default : goal.returns-in_default
returns-in_default c =
    let a = c.args in
    let d = c.in_default in record {
      state = λ n.
          rw (stored a.shape (instruction a.op) (held a.w.now n a.scalar) a.s.now d.not-None d.not-Test d.not-Extract, ← c.make-v.ensures, ← c.byte-to.ensures)
          (another_register n a.scalar c.put.ensures);
      vector = rw (gives a.shape d.not-None d.not-Test d.not-Extract, ← c.byte-to.ensures) c.get.ensures;
    }

-- `program_forms::of` meets its contract. Assumes nothing.
use mathlib.Core.Path.{ap, ◌∙◌}
use Rattle.program_forms.specs.Forms.{form_of, form}
use Rattle.program_forms.proofs.of.Goals as goal

pub returns-then-operation : goal.returns-then-operation
unfolding form
returns-then-operation c = rw c.if-operation.true c.registers.ensures

pub returns-then-operation-2 : goal.returns-then-operation-2
unfolding form
returns-then-operation-2 c = rw (c.if-operation.false, c.if-operation-2.true) c.registers-then-operation-2.ensures

pub returns : goal.returns
unfolding form
returns c = rw (c.if-operation.false, c.if-operation-2.false) (c.of_shape.ensures ∙ ap form_of c.decide.ensures)

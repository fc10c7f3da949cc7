-- `calculator_path::packed_form::unary` meets its contract: each arm by its method's promise, at the number that led there. Assumes nothing.
use Rattle.standard.specs.Instruction.{table, instruction}
use Rattle.calculator_path.proofs.packed_form.unary.Goals as goal

pub returns-in-97 : goal.returns-in-97
unfolding instruction table
returns-in-97 c = rw c.in-97.is (search)

pub returns-in-98 : goal.returns-in-98
unfolding instruction table
returns-in-98 c = rw c.in-98.is (search)

pub returns-in-129 : goal.returns-in-129
unfolding instruction table
returns-in-129 c = rw c.in-129.is (search)

pub returns-in-161 : goal.returns-in-161
unfolding instruction table
returns-in-161 c = rw c.in-161.is (search)

pub returns-in-193 : goal.returns-in-193
unfolding instruction table
returns-in-193 c = rw c.in-193.is (search)
